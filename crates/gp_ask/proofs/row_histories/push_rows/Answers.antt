use Rattle.std.proofs.Common.{Bool, List, arith, subst, sym, take}
use Rattle.std.proofs.lemmas.List.{take_all}
use Rattle.std.specs.BTreeMap.{get}
use Rattle.std.specs.Option.{is_some}
use Rattle.gp_base.specs.declared.cell.Cell.{Cell}
use Rattle.gp_base.specs.Identities.{Identity, identity_cmp}
use Rattle.gp_algebra.specs.Views.{statement_view}
use Rattle.gp_ask.specs.HistoryForms as f
use Rattle.gp_ask.specs.Keyed.{identity_of}
use Rattle.gp_ask.specs.RowLines.{RowLine}
use Rattle.gp_ask.proofs.FewLines.{pushes-none, pushes-then}
use Rattle.gp_ask.proofs.RowLineLemmas.{flat-more}
use Rattle.gp_ask.proofs.row_histories.push_rows.Goals as goal

pub loop-row-init : goal.loop-row-init
loop-row-init c = pushes-none c.args.lines.now.items

pub loop-row-preserved : goal.loop-row-preserved
loop-row-preserved c =
    let changing = c.args.changing.now in
    let own = changing.own in
    let rows = c.args.rows.now in
    let place = c.loop-row.row-index in
    let row = c.row-item.result in
    let asked : Identity → Bool = λ (id : Identity). is_some (get identity_cmp changing.asked.now id) in
    let line-of : List Cell → List RowLine = λ (row : List Cell). f.row_change asked changing.version own.t own.k (statement_view own.stmt.now) own.table row (identity_of row) in
    let before = f.rows_changes asked changing.version own.t own.k (statement_view own.stmt.now) own.table (take place rows) in
    subst (λ (more : List RowLine). f.Pushes more c.args.lines.now.items c.push_row.new.lines.items) (sym (flat-more line-of rows place row c.loop-row-test.true c.row-item.is))
    (pushes-then before (line-of row) c.args.lines.now.items c.loop-row.lines.items c.push_row.new.lines.items c.loop-row.invariant c.in_ok-push_row.ensures)

pub returns : goal.returns
returns c =
    let changing = c.args.changing.now in
    let own = changing.own in
    let rows = c.args.rows.now in
    let asked : Identity → Bool = λ (id : Identity). is_some (get identity_cmp changing.asked.now id) in
    subst (λ (rows : List (List Cell)). f.Pushes (f.rows_changes asked changing.version own.t own.k (statement_view own.stmt.now) own.table rows) c.args.lines.now.items c.loop-row.lines.items)
    (take_all c.loop-row.row-index rows (omega (arith, c.loop-row-test.false))) c.loop-row.invariant
