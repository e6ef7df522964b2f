-- Of the contracts of `substitute` and `substitute_cond`: expressions in place of the columns of another one. A column that is not there becomes NULL, as its
-- value is.
use Rattle.std.specs.Prelude.{ℕ, zero, suc, List, map, get_or}
use Rattle.gp_base.specs.declared.cell.Cell.TheVariants as cell
use Rattle.gp_expr.specs.Expressions as e
use Rattle.gp_expr.specs.Expressions.{Expr, Cond, Parts}

-- the expression for a column, which count from 1
abbrev pub chosen : ℕ → List Expr → Expr
chosen zero inner = e.constant cell.Null
chosen (suc n) inner = get_or inner n (e.constant cell.Null)

abbrev mutual
  pub substituted : Expr → List Expr → Expr
  substituted (e.col n) inner = chosen n inner
  substituted (e.constant x) inner = e.constant x
  substituted (e.add a b) inner = e.add (substituted a inner) (substituted b inner)
  substituted (e.sub a b) inner = e.sub (substituted a inner) (substituted b inner)
  substituted (e.mul a b) inner = e.mul (substituted a inner) (substituted b inner)
  substituted (e.neg a) inner = e.neg (substituted a inner)
  substituted (e.case c a b) inner = e.case (substituted_cond c inner) (substituted a inner) (substituted b inner)
  substituted (e.new_id t k b parts) inner = e.new_id t k b (substituted_parts parts inner)
  substituted (e.times a b) inner = e.times (substituted a inner) (substituted b inner)

  pub substituted_cond : Cond → List Expr → Cond
  substituted_cond e.always inner = e.always
  substituted_cond (e.compare cmp a b) inner = e.compare cmp (substituted a inner) (substituted b inner)
  substituted_cond (e.is_null a wanted) inner = e.is_null (substituted a inner) wanted
  substituted_cond (e.is_true c wanted) inner = e.is_true (substituted_cond c inner) wanted
  substituted_cond (e.and c d) inner = e.and (substituted_cond c inner) (substituted_cond d inner)
  substituted_cond (e.or c d) inner = e.or (substituted_cond c inner) (substituted_cond d inner)
  substituted_cond (e.not c) inner = e.not (substituted_cond c inner)

  pub substituted_parts : Parts → List Expr → Parts
  substituted_parts e.no_parts inner = e.no_parts
  substituted_parts (e.part a others) inner = e.part (substituted a inner) (substituted_parts others inner)

abbrev pub substituted_each : List Expr → List Expr → List Expr
substituted_each exprs inner = map (λ expr. substituted expr inner) exprs
