use Rattle.std.proofs.Common.{false, Ok, ap, subst, sym, ◌∙◌, ◌≡◌}
use Rattle.std.proofs.lemmas.Result.{IfOk-weaker}
use Rattle.gp_base.specs.Annotated.{unannotated}
use Rattle.gp_base.specs.Order.{row_cmp, sorted_by}
use Rattle.gp_syntax.specs.Views.{point_view}
use Rattle.gp_algebra.specs.Plain.{PlainEnvironment}
use Rattle.gp_algebra.specs.Views.{select_view}
use Rattle.gp_log.specs.Logs.{log_view}
use Rattle.gp_machine.specs.Questions.{log_refusal}
use Rattle.gp_reenact.specs.Backends.{IsGivenOver, RefusedBy}
use Rattle.gp_reenact.specs.Reenacting.{transaction_at}
use Rattle.gp_reenact.specs.Programs.{merged_at}
use Rattle.gp_reenact.specs.Encoding.{encoded}
use Rattle.gp_reenact.specs.Travel.{past_environment}
use Rattle.gp_dump.specs.Views.{dump_view}
use Rattle.gp_ask.specs.declared.answered.Answered.{Answered}
use Rattle.gp_ask.specs.declared.answered.Answered.TheVariants.{Rows}
use Rattle.gp_ask.specs.Backends.{IsAnswered, past_of}
use Rattle.gp_ask.proofs.BackendLemmas.{found_is_answered, past_is, refusal_is_answered}
use Rattle.gp_ask.proofs.queries.selected_answer.Goals as goal

pub reenact_by-requires : goal.reenact_by-requires
reenact_by-requires g c = record { fits = c.requires.fits; statements = c.args.dump.now.answerable.statements }

pub returns-in-Ok : goal.returns-in-Ok
returns-in-Ok g c =
    let dump = c.args.dump.now in
    let gives = g.B.Backend.gives c.args.backend.now in
    let t = transaction_at (point_view c.args.state) in
    let program = merged_at false (log_view dump.log.entries) (point_view c.args.state) (select_view c.args.select.now) in
    let past = past_of (dump_view dump) in
    let rows = c.in-Ok.rows.items in
    let same : encoded (past_environment unannotated c.as_slice.result.now) ≡ past = ap (λ versions. encoded (past_environment unannotated versions)) c.as_slice.ensures ∙ past_is dump.versions in
    let given = subst (λ (env : PlainEnvironment). IsGivenOver gives program env (Ok rows)) same c.in-Ok.ensures.1 in
    IfOk-weaker c.sorted_answer.result (λ (a : Answered). a ≡ Rows (sorted_by row_cmp rows)) (λ (a : Answered). IsAnswered gives t program past a)
    (λ a is. subst (λ (b : Answered). IsAnswered gives t program past b) (sym is) (found_is_answered gives t program past rows given)) c.sorted_answer.ensures

pub returns-in-Err-Refused : goal.returns-in-Err-Refused
returns-in-Err-Refused g c =
    let dump = c.args.dump.now in
    let gives = g.B.Backend.gives c.args.backend.now in
    let t = transaction_at (point_view c.args.state) in
    let program = merged_at false (log_view dump.log.entries) (point_view c.args.state) (select_view c.args.select.now) in
    let refusal = c.in-Err-Refused.refusal in
    let expected = log_refusal (log_view dump.log.entries) (point_view c.args.state) in
    let same : encoded (past_environment unannotated c.as_slice.result.now) ≡ past_of (dump_view dump) = ap (λ versions. encoded (past_environment unannotated versions)) c.as_slice.ensures ∙ past_is dump.versions in
    refusal_is_answered gives t program (past_of (dump_view dump)) refusal expected c.requires.known
    (subst (λ (env : PlainEnvironment). RefusedBy gives refusal expected t program env) same (rw c.in-Err-Refused.field-0-is at c.in-Err-Refused.ensures))
