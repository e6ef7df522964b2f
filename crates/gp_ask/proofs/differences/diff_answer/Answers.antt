use Rattle.std.proofs.Common.{◌≡◌, ◌∙◌, Bool, None, ap, sym}
use Rattle.std.proofs.lemmas.Result.{IfOk-weaker}
use Rattle.gp_dump.specs.Views.{dump_view}
use Rattle.gp_syntax.specs.Views.{query_view, side_view}
use Rattle.gp_ask.specs.declared.answered.Answered.{Answered}
use Rattle.gp_ask.specs.Computed.{what_if_answer}
use Rattle.gp_ask.specs.DifferenceForms.{history_of, sides_of}
use Rattle.gp_ask.specs.Differences as d
use Rattle.gp_ask.specs.Made.{unmade_refusal}
use Rattle.gp_ask.proofs.DifferenceLemmas.{mixed-made}
use Rattle.gp_ask.proofs.WhatIfLemmas.{none_refused}
use Rattle.gp_ask.proofs.differences.diff_answer.Goals as goal

-- once nothing refuses to compare the history with a changed one, its rows are made
pub sides_answer-requires-clause-made : goal.sides_answer-requires-clause-made
sides_answer-requires-clause-made c = λ mixed.
    let dump = dump_view c.args.dump.now in
    mixed-made (unmade_refusal dump) dump.entries (side_view c.args.first.now) (side_view c.args.second.now) (query_view c.args.query.read.now)
    (sym c.in_ok-refusal.ensures.refusal ∙ c.in-None.is) (sym c.are_mixed.ensures ∙ mixed)

pub returns-in-None-clause-answered : goal.returns-in-None-clause-answered
returns-in-None-clause-answered c =
    let dump = dump_view c.args.dump.now in
    let first = side_view c.args.first.now in
    let second = side_view c.args.second.now in
    let query = query_view c.args.query.read.now in
    let answer : Bool → Answered = λ mixed. sides_of (d.side_answer (history_of mixed dump) (what_if_answer dump.entries)) first second query in
    let refusal = d.mixed_refusal (unmade_refusal dump) dump.entries first second query in
    let none : refusal ≡ None = sym c.in_ok-refusal.ensures.refusal ∙ c.in-None.is in
    IfOk-weaker c.sides_answer.result (λ (a : Answered). a ≡ answer c.are_mixed.result)
    (λ (a : Answered). a ≡ d.diff_answer (history_of (d.are_mixed first second) dump) (what_if_answer dump.entries) (unmade_refusal dump) dump.entries first second query)
    (λ a is. is ∙ ap answer c.are_mixed.ensures ∙ sym (none_refused refusal (answer (d.are_mixed first second)) none)) c.sides_answer.ensures.answered
