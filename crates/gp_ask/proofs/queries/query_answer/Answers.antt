use Rattle.std.proofs.Common.{false, List, ap, subst, sym, refl, ℕ, ◌∙◌, ◌≡◌}
use Rattle.std.proofs.lemmas.Result.{IfOk-weaker}
use Rattle.gp_grammar.specs.Syntax as y
use Rattle.gp_syntax.specs.Views.{query_view, point_view}
use Rattle.gp_algebra.specs.Plain.{PlainEnvironment}
use Rattle.gp_check.specs.Checking.{checked_query}
use Rattle.gp_exec.specs.Backends.{Executes}
use Rattle.gp_log.specs.Parameters.{parameters}
use Rattle.gp_log.specs.LogFacts.{tables_in}
use Rattle.gp_log.specs.Logs.{log_view}
use Rattle.gp_machine.specs.Questions.{log_refusal, rows_answer}
use Rattle.gp_reenact.specs.Reenacting.{transaction_at}
use Rattle.gp_reenact.specs.Programs.{merged_at}
use Rattle.gp_versions.specs.declared.span.Span.{Span}
use Rattle.gp_dump.specs.Views.{dump_view}
use Rattle.gp_ask.specs.declared.answered.Answered.{Answered}
use Rattle.gp_ask.specs.Computed.{computed_answer}
use Rattle.gp_ask.specs.Asking.{of_elements, query_answer}
use Rattle.gp_ask.specs.Backends.{AnswersBy, AnswersQuery}
use Rattle.gp_ask.proofs.BackendLemmas.{executed_answers, past_is}
use Rattle.gp_ask.proofs.ProvenanceLemmas.{sound}
use Rattle.gp_ask.proofs.ReenactedLemmas.{dump-spans}
use Rattle.gp_ask.proofs.queries.query_answer.Goals as goal

pub returns : goal.returns
returns c =
    let dump = c.args.dump.now in
    let entries = log_view dump.log.entries in
    let point = point_view c.args.state in
    let question = y.ask (y.of_state y.rows point) (query_view c.args.query.read.now) in
    let expected = log_refusal entries point in
    let checked = checked_query (tables_in entries) (query_view c.args.query.read.now) in
    let moved = ap (λ (spans : ℕ → List Span). query_answer (λ select. of_elements (rows_answer parameters entries spans point select)) expected checked) (dump-spans dump.versions) in
    IfOk-weaker c.query_answer_by.result (λ (a : Answered). AnswersBy Executes (dump_view dump) question a) (λ (a : Answered). a ≡ computed_answer (dump_view dump) question)
    (λ a by.
    executed_answers entries dump.versions point (sound dump).statements (sound dump).spans expected checked a refl
    (subst (λ (past : PlainEnvironment). AnswersQuery Executes (tables_in entries) (transaction_at point) (merged_at false entries point) past expected checked a) (sym (past_is dump.versions)) by)
    ∙ moved)
    c.query_answer_by.ensures
