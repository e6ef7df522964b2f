use Rattle.std.proofs.Common.{ap, subst, sym, ◌∙◌}
use Rattle.std.specs.Prelude.{IfOk}
use Rattle.gp_dump.specs.Views.{dump_view}
use Rattle.gp_grammar.specs.Syntax as y
use Rattle.gp_syntax.specs.declared.question.How.{How}
use Rattle.gp_syntax.specs.declared.question.Subject.{Subject}
use Rattle.gp_syntax.specs.declared.question.Subject.TheVariants as asked_of
use Rattle.gp_syntax.specs.Views.{query_view, subject_view}
use Rattle.gp_ask.specs.Backends.{AnswersBy}
use Rattle.gp_ask.specs.declared.answered.Answered.{Answered}
use Rattle.gp_ask.proofs.answering.ask_answer_by.Goals as goal

pub returns : goal.returns
returns g c =
    subst
    (λ (subject : Subject). IfOk c.query_answer_by.result (λ (answered : Answered). AnswersBy (g.B.Backend.gives c.args.backend.now) (dump_view c.args.dump.now)
    (y.ask (subject_view subject) (query_view c.args.query.read.now)) answered))
    (sym (c.in-State.is ∙ ap (λ (how : How). asked_of.State how c.in-State.state) c.in-Rows.is)) c.query_answer_by.ensures
