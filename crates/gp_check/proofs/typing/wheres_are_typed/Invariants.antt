use Rattle.std.proofs.Common.{◌≡◌, map, drop}
use Rattle.std.specs.List.{list_all}
use Rattle.gp_syntax.specs.Views.{block_view}
use Rattle.gp_check.specs.Faults.{block_where_is_typed}
use Rattle.gp_check.proofs.typing.wheres_are_typed.Given as goal

abbrev pub invariant-loop-block : goal.invariant-loop-block
invariant-loop-block l =
    list_all (block_where_is_typed l.catalog) (map block_view (drop l.block-index l.blocks))
    ≡ list_all (block_where_is_typed l.catalog) (map block_view l.blocks)
