use Rattle.std.proofs.Common.{◌≡◌, map, drop}
use Rattle.gp_syntax.specs.Views.{block_view}
use Rattle.gp_check.specs.Faults.{block_columns_fault, first_fault}
use Rattle.gp_check.proofs.columns.known_query_columns.Given as goal

abbrev pub invariant-loop-block : goal.invariant-loop-block
invariant-loop-block l =
    first_fault (block_columns_fault l.catalog) (map block_view (drop l.block-index l.blocks))
    ≡ first_fault (block_columns_fault l.catalog) (map block_view l.blocks)
