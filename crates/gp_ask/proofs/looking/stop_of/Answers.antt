use Rattle.std.proofs.Common.{◌≡◌, ◌≤◌, ◌∙◌, Option, Some, ap, arith, subst}
use Rattle.std.specs.Prelude.{IfOk}
use Rattle.gp_base.specs.declared.refusal.Refusal.{Refusal}
use Rattle.gp_dump.specs.Dumps.{Dump}
use Rattle.gp_dump.specs.Views.{dump_view}
use Rattle.gp_machine.specs.Entries.{statement_count}
use Rattle.gp_ask.specs.Looked as l
use Rattle.gp_ask.proofs.LookedLemmas.{stop-last}
use Rattle.gp_ask.proofs.looking.stop_of.Goals as goal

pub returns-in-Some : goal.returns-in-Some
returns-in-Some c =
    let dump : Dump = dump_view c.args.dump.now in
    let own = c.in-Some.statement in
    let found : l.IsLastStopping c.args.t dump.entries (Some own) = c.in-Some.ensures in
    let most : own.k ≤ statement_count c.args.t dump.entries = subst (λ t. own.k ≤ statement_count t dump.entries) found.0 found.1.0.most in
    let same : l.stop_at dump own.t own.k ≡ l.stop_of dump c.args.t = ap (λ t. l.stop_at dump t own.k) found.0 ∙ stop-last dump c.args.t own.k most found.1.1 in
    subst (λ (stop : Option Refusal). IfOk c.stop_upto.result (λ found. found ≡ stop)) same c.stop_upto.ensures

pub returns-in-None : goal.returns-in-None
returns-in-None c =
    let dump : Dump = dump_view c.args.dump.now in
    let none : l.NoneStops c.args.t 0 (statement_count c.args.t dump.entries) dump.entries = c.in-None.ensures in
    stop-last dump c.args.t 0 (omega arith) none
