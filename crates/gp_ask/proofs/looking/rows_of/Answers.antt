use Rattle.std.proofs.Common.{◌∙◌, Err, Global, Ok, Vec, ap, map, subst}
use Rattle.gp_base.specs.declared.row.Row.{Row}
use Rattle.gp_algebra.specs.Views.{statement_view}
use Rattle.gp_dump.specs.Dumps.{Dump}
use Rattle.gp_dump.specs.Views.{dump_view}
use Rattle.gp_reenact.specs.LookingForms.{Looks, system_row}
use Rattle.gp_reenact.specs.Reenacting.{spans_of}
use Rattle.gp_base.specs.declared.stop.Stop.TheVariants as stop
use Rattle.gp_ask.specs.Looked as l
use Rattle.gp_ask.proofs.LookedLemmas.{its-rows, looked-as, none-stops, not-refused}
use Rattle.gp_ask.proofs.ProvenanceLemmas.{sound-versions}
use Rattle.gp_ask.proofs.ReenactedLemmas.{dump-spans}
use Rattle.gp_ask.proofs.looking.rows_of.Goals as goal

pub looked-requires-clause-spans : goal.looked-requires-clause-spans
looked-requires-clause-spans c = (sound-versions c.args.dump.now c.as_slice.result.now c.as_slice.ensures).spans

pub returns-in-Ok : goal.returns-in-Ok
returns-in-Ok c =
    let dump : Dump = dump_view c.args.dump.now in
    let own = c.args.statement.now in
    let statement = statement_view own.stmt.now in
    let same = looked-as dump own.t own.k c.requires.logged.first statement (spans_of c.as_slice.result.now) (ap spans_of c.as_slice.ensures ∙ dump-spans c.args.dump.now.versions) in
    its-rows (λ (rows : Vec Row Global). rows.items) (map system_row (l.rows_of dump own.t own.k statement)) (l.stop_at dump own.t own.k) c.in-Ok.rows
    (none-stops dump own.t own.k c.requires.logged.most c.requires.runs) (subst (Looks (λ (rows : Vec Row Global). rows.items) (Ok c.in-Ok.rows)) same c.in-Ok.ensures)

pub unreachable-requires : goal.unreachable-requires
unreachable-requires c =
    let dump : Dump = dump_view c.args.dump.now in
    let own = c.args.statement.now in
    let statement = statement_view own.stmt.now in
    let same = looked-as dump own.t own.k c.requires.logged.first statement (spans_of c.as_slice.result.now) (ap spans_of c.as_slice.ensures ∙ dump-spans c.args.dump.now.versions) in
    not-refused (λ (rows : Vec Row Global). rows.items) (map system_row (l.rows_of dump own.t own.k statement)) (l.stop_at dump own.t own.k) c.in-Err-Refused.field-0-0
    (none-stops dump own.t own.k c.requires.logged.most c.requires.runs)
    (subst (Looks (λ (rows : Vec Row Global). rows.items) (Err (stop.Refused c.in-Err-Refused.field-0-0))) same (rw c.in-Err-Refused.field-0-is at c.in-Err-Refused.ensures))
