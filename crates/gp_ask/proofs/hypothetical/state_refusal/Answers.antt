use Rattle.std.proofs.Common.{Ok, Err, Option, sym, ap, ◌∙◌, ◌≡◌}
use Rattle.std.proofs.lemmas.Result.{IfOk-weaker}
use Rattle.gp_base.specs.declared.refusal.Refusal.{Refusal}
use Rattle.gp_algebra.specs.Views.{select_view}
use Rattle.gp_check.specs.Checking.{checked_query}
use Rattle.gp_log.specs.LogFacts.{tables_in}
use Rattle.gp_log.specs.Logs.{log_view}
use Rattle.gp_grammar.specs.Syntax as y
use Rattle.gp_machine.specs.Questions.{log_refusal}
use Rattle.gp_syntax.specs.Views.{how_view, query_view, point_view}
use Rattle.gp_ask.specs.Hypothetical as h
use Rattle.gp_ask.proofs.WhatIfLemmas.{asked_refusal}
use Rattle.gp_ask.proofs.hypothetical.state_refusal.Goals as goal

pub returns-in-Ok : goal.returns-in-Ok
returns-in-Ok c =
    let entries = log_view c.args.log.now.entries in
    let point = point_view c.args.state in
    let query = query_view c.args.query.now in
    let subject = y.of_state (how_view c.args.how.now) point in
    IfOk-weaker c.rules_refusal.result (λ (r : Option Refusal). (state : y.Point) → r ≡ h.rules_refusal (y.of_state (how_view c.args.how.now) state)) (λ (r : Option Refusal). r ≡ h.asking_refusal entries subject query)
    (λ r is. is point ∙ sym (asked_refusal (log_refusal entries point) (checked_query (tables_in entries) query) (h.rules_refusal subject) (Ok (select_view c.in-Ok.field-0)) c.in-Ok.ensures.checked))
    c.rules_refusal.ensures
