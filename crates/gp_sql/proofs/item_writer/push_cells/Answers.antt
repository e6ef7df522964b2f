use Rattle.std.proofs.Common.{drop, ◌∷◌, []}
use Rattle.std.specs.List.{concat}
use Rattle.gp_sql.specs.ItemTexts.{name_text, named_behind, separator}
use Rattle.gp_sql.specs.Spelling.{term_text}
use Rattle.gp_sql.specs.Translation.{cell_term, cells_terms, first_due}
use Rattle.gp_sql.proofs.ItemLemmas.{cells-more, loop-kept}
use Rattle.gp_sql.proofs.ListLemmas.{item-there}
use Rattle.gp_sql.proofs.item_writer.push_cells.Goals as goal

pub loop-n-preserved : goal.loop-n-preserved
loop-n-preserved c =
    let due = c.args.due.now in
    loop-kept (λ n xs. named_behind [] n (cells_terms (drop n due) xs))
    (λ n x. concat (separator n ∷ term_text [] (cell_term (first_due (drop n due)) x) ∷ name_text n ∷ []))
    (cells-more due) c.args.cells.now c.loop-n.n c.index-cells-n.result c.loop-n.out.items c.push_cell_item.new.out.items _
    (item-there c.args.cells.now c.loop-n.n c.index-cells-n.result c.loop-n-test.true c.index-cells-n.is) c.in_ok-push_cell_item.ensures c.loop-n.invariant
