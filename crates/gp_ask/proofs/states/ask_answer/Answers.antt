use Rattle.std.proofs.Common.{subst, sym, ◌≡◌}
use Rattle.std.specs.Prelude.{IfOk}
use Rattle.gp_dump.specs.Views.{dump_view}
use Rattle.gp_grammar.specs.Syntax as y
use Rattle.gp_syntax.specs.declared.question.Subject.{Subject}
use Rattle.gp_syntax.specs.Views.{query_view, subject_view}
use Rattle.gp_ask.specs.Computed.{computed_answer}
use Rattle.gp_ask.specs.ExplainedTexts.{ExplainsQuestion}
use Rattle.gp_ask.proofs.states.ask_answer.Goals as goal

pub returns-in-State-clause-answered : goal.returns-in-State-clause-answered
returns-in-State-clause-answered c =
    subst (λ (subject : Subject). IfOk c.state_answer.result (λ answered. answered ≡ computed_answer (dump_view c.args.dump.now) (y.ask (subject_view subject) (query_view c.args.query.read.now))))
    (sym c.in-State.is) c.state_answer.ensures.answered

pub returns-in-State-clause-explained : goal.returns-in-State-clause-explained
returns-in-State-clause-explained c =
    subst (λ (subject : Subject). IfOk c.state_answer.result (λ answered. ExplainsQuestion (dump_view c.args.dump.now).entries (y.ask (subject_view subject) (query_view c.args.query.read.now))))
    (sym c.in-State.is) c.state_answer.ensures.explained

pub returns-in-Saw-clause-answered : goal.returns-in-Saw-clause-answered
returns-in-Saw-clause-answered c =
    subst (λ (subject : Subject). IfOk c.saw_answer.result (λ answered. answered ≡ computed_answer (dump_view c.args.dump.now) (y.ask (subject_view subject) (query_view c.args.query.read.now))))
    (sym c.in-Saw.is) c.saw_answer.ensures
