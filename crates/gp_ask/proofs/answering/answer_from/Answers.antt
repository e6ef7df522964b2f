use Rattle.std.proofs.Common.{sym, subst, ◌≡◌}
use Rattle.std.specs.Prelude.{IfOk}
use Rattle.gp_syntax.specs.declared.question.Question.{Question}
use Rattle.gp_syntax.specs.Views.{question_view}
use Rattle.gp_dump.specs.Views.{dump_view}
use Rattle.gp_ask.specs.Computed.{computed_answer}
use Rattle.gp_ask.proofs.answering.answer_from.Goals as goal

pub returns-in-Ask-clause-answered : goal.returns-in-Ask-clause-answered
returns-in-Ask-clause-answered c =
    subst (λ (question : Question). IfOk c.ask_answer.result (λ answered. answered ≡ computed_answer (dump_view c.args.dump.now) (question_view question)))
    (sym c.in-Ask.is) c.ask_answer.ensures.answered

pub returns-in-History-clause-answered : goal.returns-in-History-clause-answered
returns-in-History-clause-answered c =
    subst (λ (question : Question). IfOk c.history_answer.result (λ answered. answered ≡ computed_answer (dump_view c.args.dump.now) (question_view question)))
    (sym c.in-History.is) c.history_answer.ensures

pub returns-in-Changes-clause-answered : goal.returns-in-Changes-clause-answered
returns-in-Changes-clause-answered c =
    subst (λ (question : Question). IfOk c.changes_answer.result (λ answered. answered ≡ computed_answer (dump_view c.args.dump.now) (question_view question)))
    (sym c.in-Changes.is) c.changes_answer.ensures
