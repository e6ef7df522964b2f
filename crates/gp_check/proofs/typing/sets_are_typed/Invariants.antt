use Rattle.std.proofs.Common.{◌≡◌, map, drop}
use Rattle.std.specs.List.{list_all}
use Rattle.gp_syntax.specs.Views.{set_view}
use Rattle.gp_check.specs.Faults.{set_is_typed}
use Rattle.gp_check.specs.Views.{source_view}
use Rattle.gp_check.proofs.typing.sets_are_typed.Given as goal

abbrev pub invariant-loop-set : goal.invariant-loop-set
invariant-loop-set l =
    list_all (set_is_typed (map source_view l.scope)) (map set_view (drop l.set-index l.sets))
    ≡ list_all (set_is_typed (map source_view l.scope)) (map set_view l.sets)
