use Rattle.std.proofs.Common.{◌≡◌, map, drop}
use Rattle.gp_check.specs.Faults.{scope_width, width_behind}
use Rattle.gp_check.specs.Views.{source_view}
use Rattle.gp_check.proofs.widths.scope_width.Given as goal

abbrev pub invariant-loop-source : goal.invariant-loop-source
invariant-loop-source l =
    width_behind l.width (map source_view (drop l.source-index l.scope)) ≡ scope_width (map source_view l.scope)
