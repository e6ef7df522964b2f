use Rattle.std.proofs.Common.{◌≡◌, ◌++◌, map, drop}
use Rattle.gp_grammar.specs.Syntax.{Item}
use Rattle.gp_syntax.specs.Views.{item_view}
use Rattle.gp_check.specs.Meaning.{number_of_table}
use Rattle.gp_check.proofs.meaning.table_numbers.Given as goal

abbrev pub invariant-loop-item : goal.invariant-loop-item
invariant-loop-item l =
    l.places ++ map (λ (item : Item). number_of_table l.catalog item.table) (map item_view (drop l.item-index l.from))
    ≡ map (λ (item : Item). number_of_table l.catalog item.table) (map item_view l.from)
