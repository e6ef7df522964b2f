use Rattle.std.proofs.Common.{◌≡◌, ◌++◌, map, drop}
use Rattle.gp_syntax.specs.Views.{block_view}
use Rattle.gp_algebra.specs.Views.{branch_view}
use Rattle.gp_check.specs.Meaning.{select_of}
use Rattle.gp_check.proofs.meaning.select.Given as goal

abbrev pub invariant-loop-block : goal.invariant-loop-block
invariant-loop-block l =
    map branch_view l.branches ++ select_of l.catalog (map block_view (drop l.block-index l.blocks)) ≡ select_of l.catalog (map block_view l.blocks)
