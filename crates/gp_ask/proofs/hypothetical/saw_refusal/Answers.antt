use Rattle.std.proofs.Common.{None, Ok, sym}
use Rattle.gp_algebra.specs.Views.{select_view}
use Rattle.gp_check.specs.Checking.{checked_query}
use Rattle.gp_log.specs.LogFacts.{tables_in}
use Rattle.gp_log.specs.Logs.{log_view}
use Rattle.gp_syntax.specs.Views.{query_view}
use Rattle.gp_ask.specs.Seeing.{seen_refusal}
use Rattle.gp_ask.proofs.WhatIfLemmas.{asked_refusal}
use Rattle.gp_ask.proofs.hypothetical.saw_refusal.Goals as goal

pub returns-in-Ok : goal.returns-in-Ok
returns-in-Ok c =
    let entries = log_view c.args.log.now.entries in
    sym (asked_refusal (seen_refusal c.args.t c.args.k entries) (checked_query (tables_in entries) (query_view c.args.query.now)) None (Ok (select_view c.in-Ok.field-0)) c.in-Ok.ensures.checked)
