use Rattle.std.proofs.Common.{◌≡◌, ◌++◌, map, drop}
use Rattle.gp_syntax.specs.Views.{set_view}
use Rattle.gp_algebra.specs.Views as a
use Rattle.gp_check.specs.Meaning.{set_expr_of}
use Rattle.gp_check.specs.Views.{source_view}
use Rattle.gp_check.proofs.meaning.set_exprs.Given as goal

abbrev pub invariant-loop-set : goal.invariant-loop-set
invariant-loop-set l =
    map a.set_view l.exprs ++ map (set_expr_of (map source_view l.scope)) (map set_view (drop l.set-index l.sets))
    ≡ map (set_expr_of (map source_view l.scope)) (map set_view l.sets)
