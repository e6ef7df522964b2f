use Rattle.std.proofs.Common.{◌≡◌, ◌++◌, map, drop}
use Rattle.gp_check.specs.Faults.{scope_types}
use Rattle.gp_check.specs.Views.{source_view}
use Rattle.gp_check.proofs.typing.scope_types.Given as goal

abbrev pub invariant-loop-source : goal.invariant-loop-source
invariant-loop-source l =
    l.types ++ scope_types (map source_view (drop l.source-index l.scope)) ≡ scope_types (map source_view l.scope)
