use Rattle.std.proofs.Common.{◌≡◌, ◌++◌, map, drop}
use Rattle.gp_expr.specs.Substitution.{substituted_each}
use Rattle.gp_expr.specs.Views.{expr_view}
use Rattle.gp_expr.proofs.substitution.substitute_each.Given as goal

-- those so far and the others are all
abbrev pub invariant-loop-expr : goal.invariant-loop-expr
invariant-loop-expr l =
    map expr_view l.new.items ++ substituted_each (map expr_view (drop l.expr-index l.exprs)) (map expr_view l.inner)
    ≡ substituted_each (map expr_view l.exprs) (map expr_view l.inner)
