use Rattle.std.proofs.Common.{◌≡◌, ◌∙◌}
use Rattle.std.proofs.lemmas.Result.{IfOk-weaker}
use Rattle.gp_dump.specs.Views.{dump_view}
use Rattle.gp_grammar.specs.Syntax as y
use Rattle.gp_syntax.specs.Views.{query_view, subject_view}
use Rattle.gp_ask.specs.declared.answered.Answered.{Answered}
use Rattle.gp_ask.specs.Computed.{computed_answer}
use Rattle.gp_ask.specs.Hypothetical.{replayed_dump}
use Rattle.gp_ask.specs.Printed.{query_to}
use Rattle.gp_ask.proofs.MadeRows.{found-made, remaking-none, unstopped}
use Rattle.gp_ask.proofs.ProvenanceLemmas.{replayable}
use Rattle.gp_ask.proofs.made.made_answer.Goals as goal

pub remade_history_answer-requires-clause-made : goal.remade_history_answer-requires-clause-made
remade_history_answer-requires-clause-made c = remaking-none (dump_view c.args.dump.now) c.requires.made

pub returns-then-was_found-clause-answered : goal.returns-then-was_found-clause-answered
returns-then-was_found-clause-answered c =
    let dump = dump_view c.args.dump.now in
    let subject = subject_view c.args.subject.now in
    let query = query_view c.args.query.read.now in
    IfOk-weaker c.ask_answer.result (λ (a : Answered). a ≡ computed_answer dump (y.ask subject query)) (λ (a : Answered). a ≡ query_to (replayed_dump dump.entries) subject query)
    (λ a is.
    is
    ∙ c.changed_histories_answer_their_questions.ensures.any_order dump.entries (replayable dump c.requires.rules) (unstopped dump.entries (remaking-none dump c.requires.made)) dump.tables
    (found-made c.args.dump.now c.args.kept.now.is_made c.requires.kept.is_made (c.was_found.ensures c.if-was_found.true)) subject query) c.ask_answer.ensures.answered
