use Rattle.std.proofs.Common.{List, Ok, true, sym, subst, ◌∙◌, ◌≡◌}
use Rattle.std.proofs.lemmas.Result.{IfOk-weaker}
use Rattle.gp_base.specs.declared.table.Table.{Table}
use Rattle.gp_check.specs.Valid.{tables_are_valid}
use Rattle.gp_dump.specs.Views.{dump_view}
use Rattle.gp_grammar.specs.Syntax as y
use Rattle.gp_log.specs.Logs.{log_view}
use Rattle.gp_log.specs.Parameters.{parameters}
use Rattle.gp_syntax.specs.Views.{changes_view, query_view, subject_view}
use Rattle.gp_ask.specs.declared.answered.Answered.{Answered}
use Rattle.gp_ask.specs.Computed.{computed_answer}
use Rattle.gp_ask.specs.Hypothetical.{asking_refusal, remaking_refusal, replayed_dump}
use Rattle.gp_ask.specs.Printed.{query_to}
use Rattle.gp_ask.specs.Values.{unless_refused}
use Rattle.gp_ask.proofs.ProvenanceLemmas.{replayable}
use Rattle.gp_ask.proofs.RememberedLemmas.{changed-rows}
use Rattle.gp_ask.proofs.remembering.answer_anew.Goals as goal

pub change-requires-clause-lines : goal.change-requires-clause-lines
change-requires-clause-lines c = c.changed_lines_rise.ensures.lines parameters (dump_view c.args.dump.now).entries c.requires.rules.log

pub remade_answer-requires-clause-replayable : goal.remade_answer-requires-clause-replayable
remade_answer-requires-clause-replayable c = c.in-Ok.ensures.replayable (replayable (dump_view c.args.dump.now) c.requires.rules) c.args.dump.now.valid c.requires.changes

pub remade_answer-requires-clause-valid : goal.remade_answer-requires-clause-valid
remade_answer-requires-clause-valid c =
    subst (λ (tables : List Table). tables_are_valid tables ≡ true)
    (sym (c.changed_logs_are_replayable.ensures.tables parameters (dump_view c.args.dump.now).entries (log_view c.in-Ok.log.entries) (changes_view c.args.changes.now) c.in-Ok.ensures.changed))
    c.args.dump.now.valid

pub returns-in-Ok-clause-kept : goal.returns-in-Ok-clause-kept
returns-in-Ok-clause-kept c = c.remade_answer.ensures.kept c.args.dump.now c.in-Ok.ensures.changed

pub returns-in-Ok-clause-answered : goal.returns-in-Ok-clause-answered
returns-in-Ok-clause-answered c =
    let entries = (dump_view c.args.dump.now).entries in
    let new = log_view c.in-Ok.log.entries in
    let changes = changes_view c.args.changes.now in
    let subject = subject_view c.args.subject.now in
    let query = query_view c.args.query.read.now in
    IfOk-weaker c.remade_answer.result
    (λ (a : Answered). a ≡ unless_refused (asking_refusal new subject query) (unless_refused (remaking_refusal new) (query_to (replayed_dump new) subject query)))
    (λ (a : Answered). a ≡ computed_answer (dump_view c.args.dump.now) (y.what_if changes subject query))
    (λ a is. is ∙ changed-rows entries new changes subject query c.requires.rows c.in-Ok.ensures.changed) c.remade_answer.ensures.answered
