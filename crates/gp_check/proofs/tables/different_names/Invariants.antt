use Rattle.std.proofs.Common.{◌≡◌, map, drop}
use Rattle.gp_syntax.specs.Views.{block_view}
use Rattle.gp_check.specs.Faults.{first_fault, items_fault}
use Rattle.gp_check.proofs.tables.different_names.Given as goal

abbrev pub invariant-loop-block : goal.invariant-loop-block
invariant-loop-block l = first_fault items_fault (map block_view (drop l.block-index l.blocks)) ≡ first_fault items_fault (map block_view l.blocks)
