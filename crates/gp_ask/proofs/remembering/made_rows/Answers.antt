use Rattle.std.proofs.Common.{◌∙◌, ◌≡◌}
use Rattle.std.proofs.lemmas.Result.{IfOk-weaker}
use Rattle.gp_dump.specs.Views.{dump_view}
use Rattle.gp_grammar.specs.Syntax as y
use Rattle.gp_syntax.specs.Views.{query_view, subject_view}
use Rattle.gp_ask.specs.declared.answered.Answered.{Answered}
use Rattle.gp_ask.specs.Computed.{computed_answer}
use Rattle.gp_ask.specs.Hypothetical.{replayed_dump}
use Rattle.gp_ask.specs.Printed.{query_to}
use Rattle.gp_ask.proofs.RememberedLemmas.{dump-replayable, made-rows-are}
use Rattle.gp_ask.proofs.remembering.made_rows.Goals as goal

pub returns-clause-answered : goal.returns-clause-answered
returns-clause-answered c =
    let dump = dump_view c.args.dump.now in
    let subject = subject_view c.args.subject.now in
    let query = query_view c.args.query.read.now in
    IfOk-weaker c.ask_answer.result (λ (a : Answered). a ≡ computed_answer dump (y.ask subject query)) (λ (a : Answered). a ≡ query_to (replayed_dump dump.entries) subject query)
    (λ a is.
    is
    ∙ made-rows-are dump.entries c.args.dump.now.versions c.requires.made (dump-replayable dump c.args.dump.now.answerable) c.changed_histories_answer_their_questions.ensures.any_order subject query)
    c.ask_answer.ensures.answered
