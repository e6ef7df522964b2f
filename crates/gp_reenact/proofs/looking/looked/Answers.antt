use Rattle.std.proofs.Common.{Err, Global, Ok, Vec, ap, subst, sym, ◌∙◌}
use Rattle.gp_algebra.specs.Plain.{PlainProgram}
use Rattle.gp_algebra.specs.Views.{statement_view}
use Rattle.gp_algebra.specs.WellBuilt.{is_well_built}
use Rattle.gp_base.specs.Annotated.{unannotated}
use Rattle.gp_base.specs.declared.row.Row.{Row}
use Rattle.gp_log.specs.Logs.{log_view}
use Rattle.gp_log.specs.Parameters.{parameters}
use Rattle.gp_reenact.specs.Encoding.{encoded}
use Rattle.gp_reenact.specs.LookingForms.{EndsInTable, Looks, looked_answer}
use Rattle.gp_reenact.specs.Reenacting.{spans_of}
use Rattle.gp_reenact.specs.Travel.{past_environment}
use Rattle.gp_base.specs.declared.stop.Stop.{Stop}
use Rattle.gp_reenact.proofs.LookingLemmas.{looked_built, looked_found, looked_stopped}
use Rattle.gp_reenact.proofs.looking.looked.Goals as goal

pub table_over-requires : goal.table_over-requires
table_over-requires c =
    let planned = c.in_ok-planned.ensures in
    ap is_well_built planned.1
    ∙ looked_built (log_view c.args.log.now.entries) c.requires.statement.statements c.args.t c.args.before (statement_view c.args.stmt.now) c.requires.statement.known c.requires.statement.here c.requires.writes

pub returns-in-Ok : goal.returns-in-Ok
returns-in-Ok c =
    looked_found (log_view c.args.log.now.entries) c.args.versions.now c.requires.statement.statements c.requires.spans c.args.t c.args.before (statement_view c.args.stmt.now) c.requires.statement.known c.requires.statement.here
    c.requires.writes (λ (rows : Vec Row Global). rows.items) c.in-Ok.rows
    (subst (λ (program : PlainProgram). EndsInTable (λ (rows : Vec Row Global). rows.items) (Ok c.in-Ok.rows) program (encoded (past_environment unannotated c.args.versions.now))) c.in_ok-planned.ensures.1 c.in-Ok.ensures)

pub returns : goal.returns
returns c =
    let entries = log_view c.args.log.now.entries in
    let statement = statement_view c.args.stmt.now in
    subst (λ (s : Stop). Looks (λ (rows : Vec Row Global). rows.items) (Err s) (looked_answer parameters entries (spans_of c.args.versions.now) c.args.t c.args.before statement)) (sym c.stopped.ensures)
    (looked_stopped entries c.args.versions.now c.requires.statement.statements c.requires.spans c.args.t c.args.before statement c.requires.statement.known c.requires.statement.here c.requires.writes (λ (rows : Vec Row Global). rows.items) c.in-Err.stop
    (subst (λ (program : PlainProgram). EndsInTable (λ (rows : Vec Row Global). rows.items) (Err c.in-Err.stop) program (encoded (past_environment unannotated c.args.versions.now))) c.in_ok-planned.ensures.1 c.in-Err.ensures))
