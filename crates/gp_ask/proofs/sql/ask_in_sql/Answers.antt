use Rattle.std.proofs.Common.{Bool, true, false, cond, subst, sym, ◌∙◌, ◌≡◌}
use Rattle.std.specs.Prelude.{IfOk}
use Rattle.gp_base.specs.declared.refusal.Refusal.TheVariants.{E30}
use Rattle.gp_dump.specs.Views.{dump_view}
use Rattle.gp_grammar.specs.Syntax as y
use Rattle.gp_syntax.specs.declared.question.Subject.{Subject}
use Rattle.gp_syntax.specs.Views.{how_view, point_view, query_view, subject_view}
use Rattle.gp_ask.specs.declared.answered.Answered.{Answered}
use Rattle.gp_ask.specs.declared.answered.Answered.TheVariants.{Refused}
use Rattle.gp_ask.specs.Formats.{are_asked, in_sql}
use Rattle.gp_ask.specs.Printed.{sql_answer_to}
use Rattle.gp_ask.proofs.sql.ask_in_sql.Goals as goal

pub returns-in-State : goal.returns-in-State
returns-in-State c =
    let dump = dump_view c.args.dump.now in
    let query = query_view c.args.query.read.now in
    let given : Answered = sql_answer_to dump (y.ask (y.of_state (y.explain false) (point_view c.in-State.state)) query) in
    let asks : are_asked (how_view c.in-State.how) ≡ true = sym c.are_asked.ensures ∙ c.if-are_asked.true in
    subst (λ (subject : Subject). IfOk c.state_answer.result (λ (found : Answered). found ≡ in_sql (sql_answer_to dump) (y.ask (subject_view subject) query))) (sym c.in-State.is)
    (subst (λ (own : Bool). IfOk c.state_answer.result (λ (found : Answered). found ≡ cond own given (Refused E30))) (sym asks) c.state_answer.ensures)
