use Rattle.std.proofs.Common.{◌≡◌, ◌++◌, map, drop}
use Rattle.gp_expr.specs.Views.{expr_view}
use Rattle.gp_algebra.proofs.copying.copy_exprs.Given as goal

-- the copies so far and the expressions that remain are all
abbrev pub invariant-loop-expr : goal.invariant-loop-expr
invariant-loop-expr l = map expr_view l.copies ++ map expr_view (drop l.expr-index l.exprs) ≡ map expr_view l.exprs
