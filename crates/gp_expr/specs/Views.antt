-- Of the contracts of `eval`, `truth` and `copy_expr`: the expressions and conditions of the code without the pointers in their boxes.
use Rattle.std.specs.Prelude.{List, [], ◌∷◌}
use Rattle.gp_expr.specs.Expressions as e
use Rattle.gp_expr.specs.declared.expr.Expr.{Expr, Col, Const, Add', Sub', Mul', Neg', Case', NewId', Times', Row_of-Expr, end_of-Expr, more_of-Expr}
use Rattle.gp_expr.specs.declared.expr.Cond.{Cond, True, Cmp', IsNull', IsTrue', And', Or', Not'}

abbrev mutual
  pub expr_view : Expr → e.Expr
  expr_view (Col n) = e.col n
  expr_view (Const cell) = e.constant cell
  expr_view (Add' p a q b) = e.add (expr_view a) (expr_view b)
  expr_view (Sub' p a q b) = e.sub (expr_view a) (expr_view b)
  expr_view (Mul' p a q b) = e.mul (expr_view a) (expr_view b)
  expr_view (Neg' p a) = e.neg (expr_view a)
  expr_view (Case' p c q a r b) = e.case (cond_view c) (expr_view a) (expr_view b)
  expr_view (NewId' t k b shape parts) = e.new_id t k b (parts_view parts)
  expr_view (Times' p a q b) = e.times (expr_view a) (expr_view b)

  pub cond_view : Cond → e.Cond
  cond_view True = e.always
  cond_view (Cmp' cmp p a q b) = e.compare cmp (expr_view a) (expr_view b)
  cond_view (IsNull' p a holds) = e.is_null (expr_view a) holds
  cond_view (IsTrue' p c holds) = e.is_true (cond_view c) holds
  cond_view (And' p c q d) = e.and (cond_view c) (cond_view d)
  cond_view (Or' p c q d) = e.or (cond_view c) (cond_view d)
  cond_view (Not' p c) = e.not (cond_view c)

  pub parts_view : {m : _} → Row_of-Expr m → e.Parts
  parts_view end_of-Expr = e.no_parts
  parts_view (more_of-Expr a others) = e.part (expr_view a) (parts_view others)

-- the parts of an identity as a list
abbrev pub parts_of : List Expr → e.Parts
parts_of [] = e.no_parts
parts_of (a ∷ others) = e.part (expr_view a) (parts_of others)
