use Rattle.std.proofs.Common.{None, sym, ◌∙◌, ◌≡◌}
use Rattle.std.specs.Option.{option_or}
use Rattle.std.proofs.lemmas.Result.{IfOk-weaker}
use Rattle.gp_base.proofs.SmallLemmas.{none_parts}
use Rattle.gp_dump.specs.Views.{dump_view}
use Rattle.gp_syntax.specs.Views.{query_view, subject_view}
use Rattle.gp_ask.specs.declared.answered.Answered.{Answered}
use Rattle.gp_ask.specs.Computed.{what_if_answer}
use Rattle.gp_ask.specs.DifferenceForms.{causes_of, committed_writes, without_in}
use Rattle.gp_ask.specs.Differences as d
use Rattle.gp_ask.specs.Hypothetical.{asking_refusal, replayed_dump}
use Rattle.gp_ask.specs.Made.{unmade_refusal}
use Rattle.gp_ask.specs.Printed.{query_to}
use Rattle.gp_ask.proofs.WhatIfLemmas.{none_refused}
use Rattle.gp_ask.proofs.causes.causes_answer.Goals as goal

pub returns-in-None-clause-answered : goal.returns-in-None-clause-answered
returns-in-None-clause-answered c =
    let dump = dump_view c.args.dump.now in
    let subject = subject_view c.args.subject.now in
    let query = query_view c.args.query.read.now in
    let answer : Answered = causes_of (without_in (what_if_answer dump.entries) subject query) (committed_writes dump.entries) (d.rows_in (query_to (replayed_dump dump.entries) subject query)) in
    let refusal = option_or (asking_refusal dump.entries subject query) (unmade_refusal dump) in
    let none : refusal ≡ None = sym c.in_ok-refusal.ensures.refusal ∙ c.in-None.is in
    IfOk-weaker c.caused_answer.result (λ (a : Answered). a ≡ answer) (λ (a : Answered). a ≡ d.causes_answer (query_to (replayed_dump dump.entries)) (what_if_answer dump.entries) (unmade_refusal dump) dump.entries subject query)
    (λ a is. is ∙ sym (none_refused refusal answer none)) c.caused_answer.ensures.answered

-- once nothing refuses the question, the rows are made
pub caused_answer-requires-clause-made : goal.caused_answer-requires-clause-made
caused_answer-requires-clause-made c =
    (none_parts (asking_refusal (dump_view c.args.dump.now).entries (subject_view c.args.subject.now) (query_view c.args.query.read.now)) (unmade_refusal (dump_view c.args.dump.now))
    (sym c.in_ok-refusal.ensures.refusal ∙ c.in-None.is)).1
