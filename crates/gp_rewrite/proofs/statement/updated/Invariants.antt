use Rattle.std.proofs.Common.{◌≡◌, ◌++◌, ◌-◌, map}
use Rattle.gp_expr.specs.Views.{cond_view, expr_view}
use Rattle.gp_algebra.specs.Views.{set_view}
use Rattle.gp_rewrite.specs.Rewriting.{updated_from}
use Rattle.gp_rewrite.proofs.statement.updated.Given as goal

abbrev pub invariant-loop-before : goal.invariant-loop-before
invariant-loop-before l =
    map expr_view l.exprs ++ updated_from (map set_view l.sets) (cond_view l.cond) l.before (l.width - l.before)
    ≡ updated_from (map set_view l.sets) (cond_view l.cond) 0 l.width
