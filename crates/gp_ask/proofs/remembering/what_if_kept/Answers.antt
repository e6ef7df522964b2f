use Rattle.std.proofs.Common.{◌≡◌, sym, ◌∙◌}
use Rattle.std.proofs.lemmas.Result.{IfOk-weaker}
use Rattle.gp_dump.specs.Views.{dump_view}
use Rattle.gp_grammar.specs.Syntax as y
use Rattle.gp_syntax.specs.Views.{changes_view, query_view, subject_view}
use Rattle.gp_ask.specs.declared.answered.Answered.{Answered}
use Rattle.gp_ask.specs.Computed.{computed_answer}
use Rattle.gp_ask.specs.ExplainedTexts.{ExplainsQuestion}
use Rattle.gp_ask.proofs.RememberedLemmas.{not-told}
use Rattle.gp_ask.proofs.remembering.what_if_kept.Goals as goal

pub rows_answer-requires-clause-rows : goal.rows_answer-requires-clause-rows
rows_answer-requires-clause-rows c = sym c.is_explained.ensures ∙ c.if-is_explained.false

pub returns-clause-explained : goal.returns-clause-explained
returns-clause-explained c =
    let entries = (dump_view c.args.dump.now).entries in
    let changes = changes_view c.args.changes.now in
    let subject = subject_view c.args.subject.now in
    let query = query_view c.args.query.read.now in
    IfOk-weaker c.rows_answer.result (λ (a : Answered). a ≡ computed_answer (dump_view c.args.dump.now) (y.what_if changes subject query))
    (λ (a : Answered). ExplainsQuestion entries (y.what_if changes subject query))
    (λ a is. not-told entries changes subject query (sym c.is_explained.ensures ∙ c.if-is_explained.false)) c.rows_answer.ensures.answered
