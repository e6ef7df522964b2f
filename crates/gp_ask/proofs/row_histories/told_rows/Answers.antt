use Rattle.std.proofs.Common.{Bool, Global, Vec, ap, map, sym, subst, ◌-◌, ◌≡◌}
use Rattle.std.proofs.lemmas.Result.{IfOk-weaker}
use Rattle.std.specs.BTreeMap.{get}
use Rattle.std.specs.Option.{is_some}
use Rattle.gp_base.specs.declared.row.Row.{Row}
use Rattle.gp_base.specs.Identities.{Identity, identity_cmp}
use Rattle.gp_algebra.specs.Views.{statement_view}
use Rattle.gp_dump.specs.Dumps.{Dump}
use Rattle.gp_dump.specs.Views.{dump_view}
use Rattle.gp_log.specs.LogFacts.{tables_in}
use Rattle.gp_log.specs.LogFitting.{SpansFit}
use Rattle.gp_log.specs.Parameters.{parameters}
use Rattle.gp_reenact.specs.Looking.{looked_refusal}
use Rattle.gp_reenact.specs.LookingForms.{system_row}
use Rattle.gp_reenact.specs.Reenacting.{spans_of}
use Rattle.gp_ask.specs.Asking.{table_spans}
use Rattle.gp_ask.specs.HistoryForms as f
use Rattle.gp_ask.specs.Looked as l
use Rattle.gp_ask.proofs.NarrowedLemmas.{narrow-told, narrowed-fit}
use Rattle.gp_ask.proofs.row_histories.told_rows.Goals as goal

pub looked-requires-clause-spans : goal.looked-requires-clause-spans
looked-requires-clause-spans c =
    let dump : Dump = dump_view c.args.dump.now in
    let changing = c.args.changing.now in
    let asked : Identity → Bool = λ (id : Identity). is_some (get identity_cmp changing.asked.now id) in
    subst (SpansFit (tables_in dump.entries)) (sym c.requires.narrow) (narrowed-fit asked (tables_in dump.entries) (table_spans dump.tables) changing.own.table c.args.dump.now.answerable.spans)

pub returns-in-Ok : goal.returns-in-Ok
returns-in-Ok c =
    let dump : Dump = dump_view c.args.dump.now in
    let changing = c.args.changing.now in
    let own = changing.own in
    let statement = statement_view own.stmt.now in
    let asked : Identity → Bool = λ (id : Identity). is_some (get identity_cmp changing.asked.now id) in
    narrow-told asked dump own.table changing.version own.t own.k statement c.requires.logged.first (c.are_by_identity.ensures c.if-not-are_by_identity.false) c.requires.logged.here c.requires.logged.target
    (spans_of c.args.narrow.now) c.requires.narrow (looked_refusal parameters dump.entries (spans_of c.args.narrow.now) own.t (own.k - 1) statement) (λ (rows : Vec Row Global). rows.items) c.in-Ok.rows c.in-Ok.ensures

pub returns-then-not-are_by_identity : goal.returns-then-not-are_by_identity
returns-then-not-are_by_identity c =
    let dump : Dump = dump_view c.args.dump.now in
    let changing = c.args.changing.now in
    let own = changing.own in
    let statement = statement_view own.stmt.now in
    let asked : Identity → Bool = λ (id : Identity). is_some (get identity_cmp changing.asked.now id) in
    let all = map system_row (l.rows_of dump own.t own.k statement) in
    IfOk-weaker c.rows_of.result (λ rows. rows.items ≡ all)
    (λ rows. f.rows_changes asked changing.version own.t own.k statement own.table rows.items ≡ f.rows_changes asked changing.version own.t own.k statement own.table all)
    (λ rows is. ap (f.rows_changes asked changing.version own.t own.k statement own.table) is) c.rows_of.ensures

pub returns-in-Err-Refused : goal.returns-in-Err-Refused
returns-in-Err-Refused c =
    let dump : Dump = dump_view c.args.dump.now in
    let changing = c.args.changing.now in
    let own = changing.own in
    let statement = statement_view own.stmt.now in
    let asked : Identity → Bool = λ (id : Identity). is_some (get identity_cmp changing.asked.now id) in
    let all = map system_row (l.rows_of dump own.t own.k statement) in
    IfOk-weaker c.rows_of-in-Err-Refused.result (λ rows. rows.items ≡ all)
    (λ rows. f.rows_changes asked changing.version own.t own.k statement own.table rows.items ≡ f.rows_changes asked changing.version own.t own.k statement own.table all)
    (λ rows is. ap (f.rows_changes asked changing.version own.t own.k statement own.table) is) c.rows_of-in-Err-Refused.ensures
