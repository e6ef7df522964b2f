use Rattle.std.proofs.Common.{◌≡◌, true, subst, sym}
use Rattle.gp_algebra.specs.Fitting.{statement_fits}
use Rattle.gp_algebra.specs.Views.{statement_view}
use Rattle.gp_algebra.specs.declared.statement.Stmt.{Stmt}
use Rattle.gp_serial.specs.LookViews.{AreSimpleBranches, AreSimpleSets}
use Rattle.gp_serial.proofs.LookLemmas.{simple_insert, simple_read, simple_update}
use Rattle.gp_serial.proofs.looks.looks_of.Goals as goal

pub query_looks-requires : goal.query_looks-requires
query_looks-requires c =
    let tables = c.args.catalog.now in
    subst AreSimpleBranches (sym c.as_slice-in-InsertSelect.ensures)
    (simple_insert tables c.in-InsertSelect.table c.in-InsertSelect.select.branches
    (subst (λ (stmt : Stmt). statement_fits tables (statement_view stmt) ≡ true) c.in-InsertSelect.is c.requires))

pub query_looks-requires-in-Read : goal.query_looks-requires-in-Read
query_looks-requires-in-Read c =
    let tables = c.args.catalog.now in
    subst AreSimpleBranches (sym c.as_slice-in-Read.ensures)
    (simple_read tables c.in-Read.select.branches (subst (λ (stmt : Stmt). statement_fits tables (statement_view stmt) ≡ true) c.in-Read.is c.requires))

pub table_looks-requires-clause-sets : goal.table_looks-requires-clause-sets
table_looks-requires-clause-sets c =
    let tables = c.args.catalog.now in
    subst AreSimpleSets (sym c.as_slice.ensures)
    (simple_update tables c.in-Update.table c.in-Update.sets c.in-Update.cond
    (subst (λ (stmt : Stmt). statement_fits tables (statement_view stmt) ≡ true) c.in-Update.is c.requires))
