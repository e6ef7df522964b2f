use Rattle.std.proofs.Common.{◌≡◌, Bool, subst, sym}
use Rattle.std.specs.Prelude.{IfOk}
use Rattle.gp_dump.specs.Views.{dump_view}
use Rattle.gp_syntax.specs.Views.{query_view, subject_view}
use Rattle.gp_ask.specs.declared.answered.Answered.{Answered}
use Rattle.gp_ask.specs.DifferenceForms.{history_of}
use Rattle.gp_ask.proofs.differences.history_answer.Goals as goal

pub made_answer-requires-clause-made : goal.made_answer-requires-clause-made
made_answer-requires-clause-made c = c.requires.made c.if-mixed.true

pub returns-then-mixed-clause-answered : goal.returns-then-mixed-clause-answered
returns-then-mixed-clause-answered c =
    subst
    (λ (mixed : Bool). IfOk c.made_answer.result (λ (a : Answered). a ≡ history_of mixed (dump_view c.args.dump.now) (subject_view c.args.subject.now) (query_view c.args.query.read.now)))
    (sym c.if-mixed.true) c.made_answer.ensures.answered

pub returns-clause-answered : goal.returns-clause-answered
returns-clause-answered c =
    subst
    (λ (mixed : Bool). IfOk c.ask_answer.result (λ (a : Answered). a ≡ history_of mixed (dump_view c.args.dump.now) (subject_view c.args.subject.now) (query_view c.args.query.read.now)))
    (sym c.if-mixed.false) c.ask_answer.ensures.answered
