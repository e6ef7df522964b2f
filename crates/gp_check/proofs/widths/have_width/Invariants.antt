use Rattle.std.proofs.Common.{◌≡◌, map, drop}
use Rattle.gp_syntax.specs.Views.{block_view}
use Rattle.gp_check.specs.Faults.{have_width}
use Rattle.gp_check.proofs.widths.have_width.Given as goal

abbrev pub invariant-loop-block : goal.invariant-loop-block
invariant-loop-block l =
    have_width l.catalog (map block_view (drop l.block-index l.blocks)) l.width ≡ have_width l.catalog (map block_view l.blocks) l.width
