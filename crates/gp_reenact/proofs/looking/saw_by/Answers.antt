use Rattle.std.proofs.Common.{Err, Ok, Global, Vec, ap, subst, sym, ◌∙◌}
use Rattle.gp_base.specs.Annotated.{unannotated}
use Rattle.gp_base.specs.declared.row.Row.{Row}
use Rattle.gp_algebra.specs.Plain.{PlainProgram}
use Rattle.gp_algebra.specs.Views.{select_view}
use Rattle.gp_algebra.specs.WellBuilt.{is_well_built}
use Rattle.gp_compose.specs.Seen.{saw_refusal}
use Rattle.gp_log.specs.Logs.{log_view}
use Rattle.gp_reenact.specs.Encoding.{encoded}
use Rattle.gp_reenact.specs.Travel.{past_environment}
use Rattle.gp_reenact.specs.Backends.{GivesOver, IsGivenOver, ReenactsBy}
use Rattle.gp_reenact.specs.LookingForms.{saw_program}
use Rattle.gp_reenact.specs.Reenacting.{stopped}
use Rattle.gp_base.specs.declared.stop.Stop.{Stop}
use Rattle.gp_reenact.proofs.BackendLemmas.{stop_refused}
use Rattle.gp_reenact.proofs.LookingLemmas.{known_of, saw_built}
use Rattle.gp_reenact.proofs.looking.saw_by.Goals as goal

pub rows_over-requires : goal.rows_over-requires
rows_over-requires g c =
    let planned = c.in_ok-planned.ensures in
    ap is_well_built planned.1
    ∙ saw_built (log_view c.args.log.now.entries) c.requires.statements (select_view c.args.select.now) c.requires.fits c.args.t c.args.k planned.0

pub number_of-requires : goal.number_of-requires
number_of-requires g c = known_of c.args.t c.args.k (log_view c.args.log.now.entries) c.in_ok-planned.ensures.0

pub returns-in-Ok : goal.returns-in-Ok
returns-in-Ok g c =
    let planned = c.in_ok-planned.ensures in
    (planned.0, subst (λ (program : PlainProgram). IsGivenOver (g.B.Backend.gives c.args.backend.now) program (encoded (past_environment unannotated c.args.versions.now)) (Ok c.in-Ok.rows.items)) planned.1 c.in-Ok.ensures)

pub returns : goal.returns
returns g c =
    let gives = g.B.Backend.gives c.args.backend.now in
    let entries = log_view c.args.log.now.entries in
    let expected = saw_refusal c.args.t c.args.k entries in
    let program = saw_program entries c.args.t c.args.k (select_view c.args.select.now) in
    let past = encoded (past_environment unannotated c.args.versions.now) in
    let planned = c.in_ok-planned.ensures in
    let over = subst (λ (program : PlainProgram). GivesOver (λ (rows : Vec Row Global). rows.items) gives (Err c.in-Err.stop) program past) planned.1 c.in-Err.ensures in
    subst (λ (s : Stop). ReenactsBy (λ (rows : Vec Row Global). rows.items) gives (Err s) expected c.args.t program past)
    (sym (c.stopped.ensures ∙ ap (λ t. stopped t c.in-Err.stop) c.number_of.ensures))
    (stop_refused (λ (rows : Vec Row Global). rows.items) gives expected c.args.t program past c.in-Err.stop planned.0 over)
