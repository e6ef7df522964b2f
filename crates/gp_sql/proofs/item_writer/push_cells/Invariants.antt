use Rattle.std.proofs.Common.{◌≡◌, ◌++◌, [], drop}
use Rattle.gp_sql.specs.ItemTexts.{named_behind}
use Rattle.gp_sql.specs.Spelling.{named_text}
use Rattle.gp_sql.specs.Translation.{cells_terms}
use Rattle.gp_sql.proofs.item_writer.push_cells.Given as goal

-- what was appended and the items that remain are all items
abbrev pub invariant-loop-n : goal.invariant-loop-n
invariant-loop-n l =
    l.out.items ++ named_behind [] l.n (cells_terms (drop l.n l.due) (drop l.n l.cells)) ≡ l.initial.out.items ++ named_text [] 1 (cells_terms l.due l.cells)
