use Rattle.std.proofs.Common.{◌∙◌, Bool, List, Some, ap, subst, sym}
use Rattle.std.specs.BTreeMap.{get}
use Rattle.std.specs.Option.{is_some}
use Rattle.std.specs.Prelude.{OnOk}
use Rattle.gp_base.specs.Identities.{Identity, identity_cmp}
use Rattle.gp_algebra.specs.Views.{statement_view}
use Rattle.gp_dump.specs.Dumps.{Dump}
use Rattle.gp_dump.specs.Views.{dump_view}
use Rattle.gp_ask.specs.Asking.{table_spans}
use Rattle.gp_ask.specs.HistoryForms as f
use Rattle.gp_ask.specs.RowLines.{RowLine}
use Rattle.gp_ask.proofs.FewLines.{pushes-none}
use Rattle.gp_ask.proofs.HistoryLines.{other-changes}
use Rattle.gp_ask.proofs.row_histories.push_own.Goals as goal

pub push_writing-requires-clause-narrow : goal.push_writing-requires-clause-narrow
push_writing-requires-clause-narrow c =
    let rows = c.args.rows.now in
    let asked : Identity → Bool = λ (id : Identity). is_some (get identity_cmp rows.asked.now id) in
    c.requires.narrow ∙ ap (λ table. f.narrowed (table_spans (dump_view c.args.dump.now).tables) table asked) (sym c.if-statement-rows.false)

pub returns-then-statement-rows : goal.returns-then-statement-rows
returns-then-statement-rows c =
    let dump : Dump = dump_view c.args.dump.now in
    let own = c.args.statement in
    let rows = c.args.rows.now in
    let old = c.args.lines.now.items in
    let asked : Identity → Bool = λ (id : Identity). is_some (get identity_cmp rows.asked.now id) in
    subst (λ (more : List RowLine). f.Pushes more old old)
    (sym (other-changes dump rows.table asked c.args.version own.t own.k (statement_view own.stmt.now) own.table c.requires.logged.target c.if-statement-rows.true)) (pushes-none old)

pub returns : goal.returns
returns c =
    let dump : Dump = dump_view c.args.dump.now in
    let own = c.args.statement in
    let rows = c.args.rows.now in
    let old = c.args.lines.now.items in
    let asked : Identity → Bool = λ (id : Identity). is_some (get identity_cmp rows.asked.now id) in
    subst (λ table. OnOk c.push_writing.result (f.Pushes (f.statement_changes dump table asked c.args.version own.t own.k (Some (statement_view own.stmt.now))) old c.push_writing.new.lines.items)) c.if-statement-rows.false c.push_writing.ensures
