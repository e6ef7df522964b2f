use Rattle.std.proofs.Common.{Some, ap, sym, ◌∙◌, ◌≡◌}
use Rattle.std.proofs.lemmas.Result.{IfOk-weaker}
use Rattle.gp_base.specs.declared.refusal.Refusal.{Refusal}
use Rattle.gp_base.specs.declared.refusal.Refusal.TheVariants.{E31}
use Rattle.gp_log.specs.LogFacts.{tables_in}
use Rattle.gp_log.specs.Logs.{log_view}
use Rattle.gp_machine.specs.Entries.{committer_of}
use Rattle.gp_machine.specs.Event.{name_at}
use Rattle.gp_ask.specs.Hypothetical as h
use Rattle.gp_ask.proofs.WhatIfLemmas.{lost_at, remaking_is}
use Rattle.gp_ask.proofs.hypothetical.remaking_refusal.Goals as goal

pub lost-requires : goal.lost-requires
lost-requires c =
    (lost_at (log_view c.args.log.now.entries) c.requires.replayable c.in-Lost.version c.in-Lost.other c.in-Lost.table c.in-Lost.id (rw c.in-Lost.is at c.requires.stops) c.conflicts_are_least.ensures.some).table

pub returns-in-Lost : goal.returns-in-Lost
returns-in-Lost c =
    let entries = log_view c.args.log.now.entries in
    IfOk-weaker c.lost.result
    (λ (r : Refusal). r ≡ E31 (committer_of c.in-Lost.version entries) (committer_of c.in-Lost.other entries) (name_at c.in-Lost.table (tables_in entries)) c.in-Lost.id)
    (λ (r : Refusal). h.remaking_refusal entries ≡ Some r)
    (λ r is. remaking_is entries _ (rw c.in-Lost.is at c.requires.stops) ∙ ap Some (sym is)) c.lost.ensures

pub returns-in-Rows : goal.returns-in-Rows
returns-in-Rows c = remaking_is (log_view c.args.log.now.entries) _ (rw c.in-Rows.is at c.requires.stops)

pub returns-in-Ancestry : goal.returns-in-Ancestry
returns-in-Ancestry c = remaking_is (log_view c.args.log.now.entries) _ (rw c.in-Ancestry.is at c.requires.stops)

pub returns-in-Full : goal.returns-in-Full
returns-in-Full c = remaking_is (log_view c.args.log.now.entries) _ (rw c.in-Full.is at c.requires.stops)
