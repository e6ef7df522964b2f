use Rattle.std.proofs.Common.{◌≡◌, ◌∙◌, ◌++◌, [], OnOk, List, ℕ, ap, subst, sym}
use Rattle.gp_base.specs.declared.cell.Cell.{Cell}
use Rattle.gp_sql.specs.Spelling.{named_text}
use Rattle.gp_sql.specs.Translation.{cells_terms}
use Rattle.gp_sql.proofs.ItemLemmas.{cells-anywhere}
use Rattle.gp_sql.proofs.values_writer.push_given_items.Goals as goal

pub returns : goal.returns
returns c =
    subst (λ (z : List ℕ). OnOk c.push_cells.result (c.push_cells.new.out.items ≡ c.args.out.now.items ++ z))
    (ap (λ (row : List Cell). named_text [] 1 (cells_terms c.args.due.now row)) c.cells.ensures.cells ∙ sym (cells-anywhere c.args._catalog.now c.args.due.now c.args.row.now)) c.push_cells.ensures
