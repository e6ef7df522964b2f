use Rattle.std.proofs.Common.{◌≡◌, ◌++◌, map, drop}
use Rattle.gp_syntax.specs.Views.{block_view}
use Rattle.gp_check.specs.Faults.{block_types}
use Rattle.gp_check.proofs.typing.query_types.Given as goal

abbrev pub invariant-loop-block : goal.invariant-loop-block
invariant-loop-block l =
    l.types ++ map (block_types l.catalog) (map block_view (drop l.block-index l.blocks)) ≡ map (block_types l.catalog) (map block_view l.blocks)
