use Rattle.std.proofs.Common.{◌∙◌, ◌++◌, List, ap, arith, length, sym, take}
use Rattle.std.specs.BTreeMap.{get}
use Rattle.gp_base.specs.declared.cell.Cell.{Cell}
use Rattle.gp_base.specs.Identities.{identity_cmp}
use Rattle.gp_algebra.specs.Views.{statement_view}
use Rattle.gp_log.specs.Logs.{log_view}
use Rattle.gp_ask.specs.ConflictForms as f
use Rattle.gp_ask.specs.Keyed.{identity_of}
use Rattle.gp_ask.specs.RowLines.{RowLine, keyed_from}
use Rattle.gp_ask.proofs.RowLineLemmas.{flat-more, keyed-more}
use Rattle.gp_ask.proofs.conflicts.push_rows.Goals as goal

pub loop-row-preserved : goal.loop-row-preserved
loop-row-preserved c =
    let looking = c.args.looking.now in
    let rows = c.args.rows.now in
    let place = c.loop-row.row-index in
    let own = c.row-item.result in
    let line-of : List Cell → List RowLine = λ (row : List Cell).
    f.row_conflict (log_view looking.log.now.entries) looking.name.now (get identity_cmp looking.met.now) looking.base looking.own.t looking.own.k (statement_view looking.own.stmt.now) looking.own.table row (identity_of row) in
    keyed-more c.args.lines.now.items c.loop-row.lines.items c.push_row.new.lines.items (f.rows_conflicts (log_view looking.log.now.entries) looking.name.now (get identity_cmp looking.met.now) looking.base looking.own.t looking.own.k (statement_view looking.own.stmt.now) looking.own.table (take place rows))
    (line-of own) c.loop-row.invariant c.in_ok-push_row.ensures
    ∙ ap (λ (lines : List RowLine). c.args.lines.now.items ++ keyed_from (length c.args.lines.now.items) lines) (sym (flat-more line-of rows place own c.loop-row-test.true c.row-item.is))
