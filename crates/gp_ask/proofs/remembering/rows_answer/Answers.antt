use Rattle.std.proofs.Common.{◌≡◌, ap, sym, ◌∙◌}
use Rattle.std.proofs.lemmas.Result.{IfOk-weaker}
use Rattle.gp_dump.specs.Views.{dump_view}
use Rattle.gp_grammar.specs.Syntax as y
use Rattle.gp_log.specs.Parameters.{parameters}
use Rattle.gp_syntax.specs.Views.{changes_view, query_view, subject_view}
use Rattle.gp_whatif.specs.Changed.{changed_log}
use Rattle.gp_ask.specs.declared.answered.Answered.{Answered}
use Rattle.gp_ask.specs.Computed.{computed_answer}
use Rattle.gp_ask.specs.Hypothetical.{asking_refusal, replayed_dump}
use Rattle.gp_ask.specs.Printed.{query_to}
use Rattle.gp_ask.specs.Values.{unless_refused}
use Rattle.gp_ask.proofs.RememberedLemmas.{changed-rows, unstopped-rows}
use Rattle.gp_ask.proofs.remembering.rows_answer.Goals as goal

pub answer_again-requires : goal.answer_again-requires
answer_again-requires c =
    let has = c.in-Some.ensures.history c.args.dump.now c.requires.kept in
    record { made = has.made; annotations = has.annotations; empty = c.in-Some.ensures.taken }

pub returns-in-Some-clause-kept : goal.returns-in-Some-clause-kept
returns-in-Some-clause-kept c =
    let has = c.in-Some.ensures.history c.args.dump.now c.requires.kept in
    c.answer_again.ensures.kept c.args.dump.now (ap (changed_log parameters (dump_view c.args.dump.now).entries) has.same ∙ has.log)

pub returns-in-Some-clause-answered : goal.returns-in-Some-clause-answered
returns-in-Some-clause-answered c =
    let has = c.in-Some.ensures.history c.args.dump.now c.requires.kept in
    let entries = (dump_view c.args.dump.now).entries in
    let new = (dump_view c.in-Some.own.dump).entries in
    let changes = changes_view c.args.changes.now in
    let subject = subject_view c.args.subject.now in
    let query = query_view c.args.query.read.now in
    let rows : Answered = query_to (replayed_dump new) subject query in
    IfOk-weaker c.answer_again.result (λ (a : Answered). a ≡ unless_refused (asking_refusal new subject query) rows)
    (λ (a : Answered). a ≡ computed_answer (dump_view c.args.dump.now) (y.what_if changes subject query))
    (λ a is.
    is
    ∙ ap (unless_refused (asking_refusal new subject query)) (sym (unstopped-rows new c.in-Some.own.dump.versions has.made rows))
    ∙ changed-rows entries new changes subject query c.requires.rows has.log) c.answer_again.ensures.answered
