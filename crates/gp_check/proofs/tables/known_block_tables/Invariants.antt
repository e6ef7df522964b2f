use Rattle.std.proofs.Common.{◌≡◌, map, drop}
use Rattle.gp_grammar.specs.Syntax.{Item}
use Rattle.gp_syntax.specs.Views.{item_view}
use Rattle.gp_check.specs.Faults.{first_fault, table_fault}
use Rattle.gp_check.proofs.tables.known_block_tables.Given as goal

abbrev pub invariant-loop-item : goal.invariant-loop-item
invariant-loop-item l =
    first_fault (λ (item : Item). table_fault l.catalog item.table) (map item_view (drop l.item-index l.block.from))
    ≡ first_fault (λ (item : Item). table_fault l.catalog item.table) (map item_view l.block.from)
