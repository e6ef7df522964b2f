use Rattle.std.proofs.Common.{List, Ok, true, sym, subst, ◌∙◌, ◌≡◌}
use Rattle.std.proofs.lemmas.Result.{IfOk-weaker}
use Rattle.gp_base.specs.declared.table.Table.{Table}
use Rattle.gp_check.specs.Valid.{tables_are_valid}
use Rattle.gp_grammar.specs.Syntax as y
use Rattle.gp_log.specs.Parameters.{parameters}
use Rattle.gp_log.specs.Logs.{log_view}
use Rattle.gp_syntax.specs.Views.{changes_view, query_view, subject_view}
use Rattle.gp_dump.specs.Views.{dump_view}
use Rattle.gp_ask.specs.declared.answered.Answered.{Answered}
use Rattle.gp_ask.specs.Computed.{computed_answer}
use Rattle.gp_ask.specs.Printed.{query_to, remade_answer}
use Rattle.gp_ask.specs.ExplainedTexts.{ExplainsQuestion}
use Rattle.gp_ask.specs.Hypothetical.{replayed_dump}
use Rattle.gp_ask.proofs.ProvenanceLemmas.{replayable}
use Rattle.gp_ask.proofs.WhatIfLemmas.{changed_is, explains_changed}
use Rattle.gp_ask.proofs.hypothetical.what_if_from.Goals as goal

pub change-requires-clause-lines : goal.change-requires-clause-lines
change-requires-clause-lines c = c.changed_lines_rise.ensures.lines parameters (dump_view c.args.dump.now).entries c.requires.rules.log

pub remade_answer-requires-clause-replayable : goal.remade_answer-requires-clause-replayable
remade_answer-requires-clause-replayable c = c.in-Ok.ensures.replayable (replayable (dump_view c.args.dump.now) c.requires.rules) c.args.dump.now.valid c.requires.changes

pub remade_answer-requires-clause-valid : goal.remade_answer-requires-clause-valid
remade_answer-requires-clause-valid c =
    subst (λ (tables : List Table). tables_are_valid tables ≡ true)
    (sym (c.changed_logs_are_replayable.ensures.tables parameters (dump_view c.args.dump.now).entries (log_view c.in-Ok.log.entries) (changes_view c.args.changes.now) c.in-Ok.ensures.changed))
    c.args.dump.now.valid

pub remade_answer-requires-clause-within : goal.remade_answer-requires-clause-within
remade_answer-requires-clause-within c = (c.requires.made (log_view c.in-Ok.log.entries) c.in-Ok.ensures.changed).0

pub remade_answer-requires-clause-made : goal.remade_answer-requires-clause-made
remade_answer-requires-clause-made c = (c.requires.made (log_view c.in-Ok.log.entries) c.in-Ok.ensures.changed).1

pub returns-in-Ok-clause-answered : goal.returns-in-Ok-clause-answered
returns-in-Ok-clause-answered c =
    let entries = (dump_view c.args.dump.now).entries in
    let new = log_view c.in-Ok.log.entries in
    let changes = changes_view c.args.changes.now in
    let subject = subject_view c.args.subject.now in
    let query = query_view c.args.query.read.now in
    IfOk-weaker c.remade_answer.result (λ (a : Answered). a ≡ remade_answer (query_to (replayed_dump new)) new subject query)
    (λ (a : Answered). a ≡ computed_answer (dump_view c.args.dump.now) (y.what_if changes subject query))
    (λ a is. is ∙ sym (changed_is entries changes subject query (Ok new) c.in-Ok.ensures.changed)) c.remade_answer.ensures.answered

pub returns-in-Ok-clause-explained : goal.returns-in-Ok-clause-explained
returns-in-Ok-clause-explained c =
    let entries = (dump_view c.args.dump.now).entries in
    let new = log_view c.in-Ok.log.entries in
    let changes = changes_view c.args.changes.now in
    let subject = subject_view c.args.subject.now in
    let query = query_view c.args.query.read.now in
    IfOk-weaker c.remade_answer.result (λ (a : Answered). ExplainsQuestion new (y.ask subject query)) (λ (a : Answered). ExplainsQuestion entries (y.what_if changes subject query))
    (λ a says. explains_changed entries changes subject query new c.in-Ok.ensures.changed says) c.remade_answer.ensures.explained
