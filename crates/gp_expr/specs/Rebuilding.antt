-- Machinery: expressions built anew, with an expression for each of their columns. A copy and a substitution are both such.
use Rattle.std.specs.Prelude.{ℕ, List, Option, Some, None, map}
use Rattle.std.specs.Borrow.{Bor}
use Rattle.std.specs.Option.{option_map}
use Rattle.gp_base.specs.declared.cell.Cell.TheVariants as cell
use Rattle.gp_expr.specs.Expressions as e
use Rattle.gp_expr.specs.Expressions.{Expr, Cond, Parts}
use Rattle.gp_expr.specs.declared.expr.Expr.{Expr as Code}
use Rattle.gp_expr.specs.Substitution.{chosen}
use Rattle.gp_expr.specs.Views.{expr_view}

-- expressions of the code, where there are some
abbrev pub inner_view : Option (Bor (List Code)) → Option (List Expr)
inner_view = option_map (λ inner. map expr_view inner.now)

-- the expression for a column: the column itself, or one of these
abbrev pub column_in : Option (List Expr) → ℕ → Expr
column_in None n = e.col n
column_in (Some inner) n = chosen n inner

-- the expression, or NULL
abbrev pub expr_or_null : Option Expr → Expr
expr_or_null None = e.constant cell.Null
expr_or_null (Some expr) = expr

abbrev mutual
  pub rebuilt : Option (List Expr) → Expr → Expr
  rebuilt inner (e.col n) = column_in inner n
  rebuilt inner (e.constant x) = e.constant x
  rebuilt inner (e.add a b) = e.add (rebuilt inner a) (rebuilt inner b)
  rebuilt inner (e.sub a b) = e.sub (rebuilt inner a) (rebuilt inner b)
  rebuilt inner (e.mul a b) = e.mul (rebuilt inner a) (rebuilt inner b)
  rebuilt inner (e.neg a) = e.neg (rebuilt inner a)
  rebuilt inner (e.case c a b) = e.case (rebuilt_cond inner c) (rebuilt inner a) (rebuilt inner b)
  rebuilt inner (e.new_id t k b parts) = e.new_id t k b (rebuilt_parts inner parts)
  rebuilt inner (e.times a b) = e.times (rebuilt inner a) (rebuilt inner b)

  pub rebuilt_cond : Option (List Expr) → Cond → Cond
  rebuilt_cond inner e.always = e.always
  rebuilt_cond inner (e.compare cmp a b) = e.compare cmp (rebuilt inner a) (rebuilt inner b)
  rebuilt_cond inner (e.is_null a wanted) = e.is_null (rebuilt inner a) wanted
  rebuilt_cond inner (e.is_true c wanted) = e.is_true (rebuilt_cond inner c) wanted
  rebuilt_cond inner (e.and c d) = e.and (rebuilt_cond inner c) (rebuilt_cond inner d)
  rebuilt_cond inner (e.or c d) = e.or (rebuilt_cond inner c) (rebuilt_cond inner d)
  rebuilt_cond inner (e.not c) = e.not (rebuilt_cond inner c)

  pub rebuilt_parts : Option (List Expr) → Parts → Parts
  rebuilt_parts inner e.no_parts = e.no_parts
  rebuilt_parts inner (e.part a others) = e.part (rebuilt inner a) (rebuilt_parts inner others)
