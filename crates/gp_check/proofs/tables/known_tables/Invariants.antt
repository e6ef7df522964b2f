use Rattle.std.proofs.Common.{◌≡◌, map, drop}
use Rattle.gp_syntax.specs.Views.{block_view}
use Rattle.gp_check.specs.Faults.{query_tables_fault}
use Rattle.gp_check.proofs.tables.known_tables.Given as goal

abbrev pub invariant-loop-block : goal.invariant-loop-block
invariant-loop-block l =
    query_tables_fault l.catalog (map block_view (drop l.block-index l.blocks)) ≡ query_tables_fault l.catalog (map block_view l.blocks)
