use Rattle.std.proofs.Common.{◌≡◌, List, true, subst, sym}
use Rattle.gp_base.specs.declared.table.Table.{Table}
use Rattle.gp_algebra.specs.Fitting.{statement_fits}
use Rattle.gp_algebra.specs.Views.{statement_view}
use Rattle.gp_log.specs.Contents.{entries, tables}
use Rattle.gp_serial.proofs.FittingStatements.{fits_there}
use Rattle.gp_serial.proofs.relation.add_statement.Goals as goal

pub looks_of-requires : goal.looks_of-requires
looks_of-requires c =
    let statement = statement_view c.in-Some.stmt.now in
    subst (λ (ts : List Table). statement_fits ts statement ≡ true) (sym c.catalog.ensures)
    (fits_there (tables c.args.log.now) (entries c.args.log.now) c.args.t c.args.k statement c.requires (sym c.in-Some.ensures))
