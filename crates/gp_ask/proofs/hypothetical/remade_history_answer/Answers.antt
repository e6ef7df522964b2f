use Rattle.std.proofs.Common.{◌≡◌, true, List, refl, ap, sym, subst, ◌∙◌, arith}
use Rattle.std.proofs.lemmas.Result.{IfOk-weaker}
use Rattle.gp_check.specs.Valid.{tables_are_valid}
use Rattle.gp_dump.specs.Views.{dump_view}
use Rattle.gp_log.specs.LogFacts.{tables_in}
use Rattle.gp_log.specs.Logs.{log_view}
use Rattle.gp_log.specs.Parameters.{parameters}
use Rattle.gp_machine.specs.Entries.{Entry}
use Rattle.gp_syntax.specs.Views.{query_view, subject_view}
use Rattle.gp_ask.specs.declared.answered.Answered.{Answered}
use Rattle.gp_ask.specs.Printed.{query_to}
use Rattle.gp_ask.specs.Hypothetical.{remaking_refusal, replayed_dump}
use Rattle.gp_ask.specs.Values.{unless_refused}
use Rattle.gp_ask.proofs.ProvenanceLemmas.{replayable}
use Rattle.gp_ask.proofs.WhatIfLemmas.{none_refused, unchanged}
use Rattle.gp_ask.proofs.hypothetical.remade_history_answer.Goals as goal

pub change-requires-clause-lines : goal.change-requires-clause-lines
change-requires-clause-lines c = c.changed_lines_rise.ensures.lines parameters (dump_view c.args.dump.now).entries c.requires.rules.log

pub replayed_answer-requires-clause-replayable : goal.replayed_answer-requires-clause-replayable
replayed_answer-requires-clause-replayable c = c.in-Ok.ensures.replayable (replayable (dump_view c.args.dump.now) c.requires.rules) c.args.dump.now.valid refl

pub replayed_answer-requires-clause-valid : goal.replayed_answer-requires-clause-valid
replayed_answer-requires-clause-valid c =
    subst (λ (own : List Entry). tables_are_valid (tables_in own) ≡ true)
    (sym (unchanged (dump_view c.args.dump.now).entries (log_view c.in-Ok.log.entries) c.in-Ok.ensures.changed)) c.args.dump.now.valid

pub replayed_answer-requires-clause-within : goal.replayed_answer-requires-clause-within
replayed_answer-requires-clause-within c = rw c.in_ok-made-in-Ok.ensures.count (omega arith)

pub replayed_answer-requires-clause-made : goal.replayed_answer-requires-clause-made
replayed_answer-requires-clause-made c = rw c.in_ok-made-in-Ok.ensures.count c.in_ok-made-in-Ok.ensures.made

pub returns-in-Ok : goal.returns-in-Ok
returns-in-Ok c =
    let entries = (dump_view c.args.dump.now).entries in
    let new = log_view c.in-Ok.log.entries in
    let subject = subject_view c.args.subject.now in
    let query = query_view c.args.query.read.now in
    let same : new ≡ entries = unchanged entries new c.in-Ok.ensures.changed in
    let expected : Answered = query_to (replayed_dump entries) subject query in
    IfOk-weaker c.replayed_answer.result (λ (a : Answered). a ≡ unless_refused (remaking_refusal new) (query_to (replayed_dump new) subject query)) (λ (a : Answered). a ≡ expected)
    (λ a is.
    is
    ∙ ap (λ (own : List Entry). unless_refused (remaking_refusal own) (query_to (replayed_dump own) subject query)) same
    ∙ none_refused (remaking_refusal entries) expected c.requires.made) c.replayed_answer.ensures
