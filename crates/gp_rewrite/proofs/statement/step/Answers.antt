use Rattle.gp_algebra.specs.Views.{select_view}
use Rattle.gp_rewrite.proofs.ThereLemmas.{inserted_there}
use Rattle.gp_rewrite.proofs.statement.step.Goals as goal

pub insert_select-requires-clause-there : goal.insert_select-requires-clause-there
insert_select-requires-clause-there c =
    let fits = rw c.in-InsertSelect.is at c.requires.fits in
    rw (c.as_slice-branches.ensures, c.requires.tables) (inserted_there c.args.catalog.now c.in-InsertSelect.table (select_view c.in-InsertSelect.select) fits)
