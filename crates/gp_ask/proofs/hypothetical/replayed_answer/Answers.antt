use Rattle.std.proofs.Common.{List, sym, subst, ◌∙◌, ◌≡◌}
use Rattle.std.proofs.lemmas.Result.{IfOk-weaker}
use Rattle.gp_grammar.specs.Syntax as y
use Rattle.gp_log.specs.Logs.{log_view}
use Rattle.gp_syntax.specs.Views.{query_view, subject_view}
use Rattle.gp_versions.specs.Spans.{Versions}
use Rattle.gp_dump.specs.Answerable.{IsAnswerable, as_dump}
use Rattle.gp_dump.specs.Views.{tables_view}
use Rattle.gp_ask.specs.declared.answered.Answered.{Answered}
use Rattle.gp_ask.specs.Computed.{computed_answer}
use Rattle.gp_ask.specs.Printed.{query_to}
use Rattle.gp_ask.specs.Hypothetical as h
use Rattle.gp_ask.specs.Values.{unless_refused}
use Rattle.gp_ask.specs.Replays.{dump_in}
use Rattle.gp_ask.proofs.FittingReplays.{replay_answerable}
use Rattle.gp_ask.proofs.WhatIfLemmas.{replayed_is}
use Rattle.gp_ask.proofs.hypothetical.replayed_answer.Goals as goal

pub invariant_of-dump : goal.invariant_of-dump
invariant_of-dump c = record {
  answerable = subst (λ (own : List Versions). IsAnswerable (as_dump c.args.log own)) (sym c.from_vec-versions.ensures)
      (replay_answerable (log_view c.args.log.entries) c.requires.replayable c.in-Ok.versions.items c.in-Ok.ensures.made);
  valid = c.requires.valid;
}

pub ask_answer-requires : goal.ask_answer-requires
ask_answer-requires c = record { kept = c.new-kept.ensures _ }

pub returns-in-Ok : goal.returns-in-Ok
returns-in-Ok c =
    let entries = log_view c.args.log.entries in
    let subject = subject_view c.args.subject.now in
    let query = query_view c.args.query.read.now in
    let expected : Answered = unless_refused (h.remaking_refusal entries) (query_to (h.replayed_dump entries) subject query) in
    IfOk-weaker c.ask_answer.result (λ (a : Answered). a ≡ computed_answer (dump_in entries (tables_view c.from_vec-versions.result)) (y.ask subject query)) (λ (a : Answered). a ≡ expected)
    (λ a is.
    is
    ∙ subst (λ (own : List Versions). query_to (dump_in entries (tables_view own)) subject query ≡ expected) (sym c.from_vec-versions.ensures)
    (replayed_is entries c.requires.replayable c.in-Ok.versions.items c.in-Ok.ensures.made c.changed_histories_answer_their_questions.ensures.any_order subject query))
    c.ask_answer.ensures.answered
