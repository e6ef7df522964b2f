use Rattle.std.proofs.Common.{◌≡◌, map, drop}
use Rattle.gp_syntax.specs.Views.{set_view}
use Rattle.gp_check.specs.Faults.{first_fault, set_fault}
use Rattle.gp_check.specs.Views.{source_view}
use Rattle.gp_check.proofs.columns.known_set_columns.Given as goal

abbrev pub invariant-loop-set : goal.invariant-loop-set
invariant-loop-set l =
    first_fault (set_fault (map source_view l.scope)) (map set_view (drop l.set-index l.sets))
    ≡ first_fault (set_fault (map source_view l.scope)) (map set_view l.sets)
