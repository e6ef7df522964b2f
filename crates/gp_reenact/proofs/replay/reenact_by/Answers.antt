use Rattle.std.proofs.Common.{false, Err, Ok, Global, Vec, ap, subst, sym, ◌∙◌}
use Rattle.gp_base.specs.Annotated.{unannotated}
use Rattle.gp_base.specs.declared.row.Row.{Row}
use Rattle.gp_syntax.specs.Views.{point_view}
use Rattle.gp_algebra.specs.Plain.{PlainProgram}
use Rattle.gp_algebra.specs.Views.{select_view}
use Rattle.gp_algebra.specs.WellBuilt.{is_well_built}
use Rattle.gp_log.specs.Logs.{log_view}
use Rattle.gp_machine.specs.Questions.{log_refusal}
use Rattle.gp_reenact.specs.Encoding.{encoded}
use Rattle.gp_reenact.specs.Travel.{past_environment}
use Rattle.gp_reenact.specs.Backends.{GivesOver, IsGivenOver, ReenactsBy}
use Rattle.gp_base.specs.declared.stop.Stop.{Stop}
use Rattle.gp_reenact.specs.Reenacting.{stopped, transaction_at}
use Rattle.gp_reenact.specs.Programs.{merged_at}
use Rattle.gp_reenact.proofs.BackendLemmas.{stop_refused}
use Rattle.gp_reenact.proofs.ReplayLemmas.{planned_is_built}
use Rattle.gp_reenact.proofs.replay.reenact_by.Goals as goal

pub rows_over-requires : goal.rows_over-requires
rows_over-requires g c =
    let planned = c.in_ok-plain.ensures in
    ap is_well_built planned.1
    ∙ planned_is_built (log_view c.args.log.now.entries) (select_view c.args.select.now) c.requires.statements c.requires.fits (point_view c.args.state) planned.0 false

pub returns-in-Ok : goal.returns-in-Ok
returns-in-Ok g c =
    let planned = c.in_ok-plain.ensures in
    (planned.0, subst (λ (program : PlainProgram). IsGivenOver (g.B.Backend.gives c.args.backend.now) program (encoded (past_environment unannotated c.args.versions.now)) (Ok c.in-Ok.rows.items)) planned.1 c.in-Ok.ensures)

pub returns : goal.returns
returns g c =
    let gives = g.B.Backend.gives c.args.backend.now in
    let expected = log_refusal (log_view c.args.log.now.entries) (point_view c.args.state) in
    let program = merged_at false (log_view c.args.log.now.entries) (point_view c.args.state) (select_view c.args.select.now) in
    let past = encoded (past_environment unannotated c.args.versions.now) in
    let planned = c.in_ok-plain.ensures in
    let over = subst (λ (program : PlainProgram). GivesOver (λ (rows : Vec Row Global). rows.items) gives (Err c.in-Err.stop) program past) planned.1 c.in-Err.ensures in
    subst (λ (s : Stop). ReenactsBy (λ (rows : Vec Row Global). rows.items) gives (Err s) expected (transaction_at (point_view c.args.state)) program past)
    (sym (c.stopped.ensures ∙ ap (λ t. stopped t c.in-Err.stop) c.transaction_at.ensures))
    (stop_refused (λ (rows : Vec Row Global). rows.items) gives expected (transaction_at (point_view c.args.state)) program past c.in-Err.stop planned.0 over)
