use Rattle.std.proofs.Common.{◌∙◌, Err, Global, Ok, Some, Vec, ap, map, subst}
use Rattle.gp_base.specs.declared.refusal.Refusal.{Refusal}
use Rattle.gp_base.specs.declared.row.Row.{Row}
use Rattle.gp_algebra.specs.Views.{statement_view}
use Rattle.gp_dump.specs.Dumps.{Dump}
use Rattle.gp_dump.specs.Views.{dump_view}
use Rattle.gp_reenact.specs.LookingForms.{Looks, system_row}
use Rattle.gp_reenact.specs.Reenacting.{spans_of}
use Rattle.gp_base.specs.declared.stop.Stop.TheVariants as stop
use Rattle.gp_ask.specs.Looked as l
use Rattle.gp_ask.proofs.LookedLemmas.{its-stop, looked-as, no-stop}
use Rattle.gp_ask.proofs.ProvenanceLemmas.{sound-versions}
use Rattle.gp_ask.proofs.ReenactedLemmas.{dump-spans}
use Rattle.gp_ask.proofs.looking.stop_upto.Goals as goal

pub looked-requires-clause-spans : goal.looked-requires-clause-spans
looked-requires-clause-spans c = (sound-versions c.args.dump.now c.as_slice.result.now c.as_slice.ensures).spans

pub returns-in-Ok : goal.returns-in-Ok
returns-in-Ok c =
    let dump : Dump = dump_view c.args.dump.now in
    let own = c.args.statement.now in
    let statement = statement_view own.stmt.now in
    let same = looked-as dump own.t own.k c.requires.logged.first statement (spans_of c.as_slice.result.now) (ap spans_of c.as_slice.ensures ∙ dump-spans c.args.dump.now.versions) in
    no-stop (λ (rows : Vec Row Global). rows.items) (map system_row (l.rows_of dump own.t own.k statement)) (l.stop_at dump own.t own.k) c.in-Ok.field-0
    (subst (Looks (λ (rows : Vec Row Global). rows.items) (Ok c.in-Ok.field-0)) same c.in-Ok.ensures)

pub returns-in-Err-Refused : goal.returns-in-Err-Refused
returns-in-Err-Refused c =
    let dump : Dump = dump_view c.args.dump.now in
    let own = c.args.statement.now in
    let statement = statement_view own.stmt.now in
    let refusal = c.in-Err-Refused.refusal in
    let same = looked-as dump own.t own.k c.requires.logged.first statement (spans_of c.as_slice.result.now) (ap spans_of c.as_slice.ensures ∙ dump-spans c.args.dump.now.versions) in
    ap (λ (found : Refusal). Some found) c.in-Err-Refused.refusal-is
    ∙ its-stop (λ (rows : Vec Row Global). rows.items) (map system_row (l.rows_of dump own.t own.k statement)) (l.stop_at dump own.t own.k) refusal
    (subst (Looks (λ (rows : Vec Row Global). rows.items) (Err (stop.Refused refusal))) same (rw c.in-Err-Refused.field-0-is at c.in-Err-Refused.ensures))
