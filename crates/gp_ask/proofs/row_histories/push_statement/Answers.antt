use Rattle.std.proofs.Common.{◌≡◌, ◌∙◌, Bool, List, None, Some, ap, subst, sym}
use Rattle.std.specs.BTreeMap.{get}
use Rattle.std.specs.Option.{is_some}
use Rattle.std.specs.Prelude.{OnOk}
use Rattle.gp_base.specs.Identities.{Identity, identity_cmp}
use Rattle.gp_dump.specs.Dumps.{Dump}
use Rattle.gp_dump.specs.Views.{dump_view}
use Rattle.gp_machine.specs.Entries.{statement_at}
use Rattle.gp_ask.specs.HistoryForms as f
use Rattle.gp_ask.specs.Looked as l
use Rattle.gp_ask.specs.RowLines.{RowLine}
use Rattle.gp_ask.proofs.FewLines.{pushes-none}
use Rattle.gp_ask.proofs.HistoryLines.{no-changes}
use Rattle.gp_ask.proofs.row_histories.push_statement.Goals as goal

pub push_own-requires-clause-logged : goal.push_own-requires-clause-logged
push_own-requires-clause-logged c = let found : l.IsFound c.args.t c.args.k (dump_view c.args.dump.now).entries (Some c.in-Some.statement) = c.in-Some.ensures in found.1.1

pub push_own-requires-clause-runs : goal.push_own-requires-clause-runs
push_own-requires-clause-runs c =
    let found : l.IsFound c.args.t c.args.k (dump_view c.args.dump.now).entries (Some c.in-Some.statement) = c.in-Some.ensures in
    subst (λ t. l.stop_of (dump_view c.args.dump.now) t ≡ None) (sym found.0) c.requires.runs

pub returns-in-Some : goal.returns-in-Some
returns-in-Some c =
    let dump : Dump = dump_view c.args.dump.now in
    let own = c.in-Some.statement in
    let found : l.IsFound c.args.t c.args.k dump.entries (Some own) = c.in-Some.ensures in
    let rows = c.args.rows.now in
    let old = c.args.lines.now.items in
    let asked : Identity → Bool = λ (id : Identity). is_some (get identity_cmp rows.asked.now id) in
    let same = ap (f.statement_changes dump rows.table asked c.args.version own.t own.k) (sym found.1.1.here)
    ∙ (λ i. f.statement_changes dump rows.table asked c.args.version (found.0 i) (found.1.0 i) (statement_at (found.0 i) (found.1.0 i) dump.entries)) in
    subst (λ (more : List RowLine). OnOk c.push_own.result (f.Pushes more old c.push_own.new.lines.items)) same c.push_own.ensures

pub returns-in-None : goal.returns-in-None
returns-in-None c =
    let dump : Dump = dump_view c.args.dump.now in
    let rows = c.args.rows.now in
    let old = c.args.lines.now.items in
    let asked : Identity → Bool = λ (id : Identity). is_some (get identity_cmp rows.asked.now id) in
    subst (λ (more : List RowLine). f.Pushes more old old) (sym (no-changes dump rows.table asked c.args.version c.args.t c.args.k (statement_at c.args.t c.args.k dump.entries) c.in-None.ensures)) (pushes-none old)
