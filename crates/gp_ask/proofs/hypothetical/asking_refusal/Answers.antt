use Rattle.std.proofs.Common.{◌≡◌, subst, sym}
use Rattle.std.specs.Prelude.{IfOk}
use Rattle.gp_log.specs.Logs.{log_view}
use Rattle.gp_syntax.specs.declared.question.Subject.{Subject}
use Rattle.gp_syntax.specs.Views.{query_view, subject_view}
use Rattle.gp_ask.specs.Hypothetical as h
use Rattle.gp_ask.proofs.hypothetical.asking_refusal.Goals as goal

pub returns-in-State : goal.returns-in-State
returns-in-State c =
    subst (λ (subject : Subject). IfOk c.state_refusal.result (λ refusal. refusal ≡ h.asking_refusal (log_view c.args.log.now.entries) (subject_view subject) (query_view c.args.query.now)))
    (sym c.in-State.is) c.state_refusal.ensures

pub returns-in-Saw : goal.returns-in-Saw
returns-in-Saw c =
    subst (λ (subject : Subject). IfOk c.saw_refusal.result (λ refusal. refusal ≡ h.asking_refusal (log_view c.args.log.now.entries) (subject_view subject) (query_view c.args.query.now)))
    (sym c.in-Saw.is) c.saw_refusal.ensures
