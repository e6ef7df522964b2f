use Rattle.std.proofs.Common.{◌≡◌, ◌∙◌, ◌++◌, ◌∷◌, ◌<◌, ◌≤◌, [], List, ap, arith, length, subst, ℕ}
use Rattle.std.specs.Prelude.{OnOk}
use Rattle.gp_base.specs.declared.cell.Cell.{Cell}
use Rattle.gp_algebra.specs.Views.{statement_view}
use Rattle.gp_ask.specs.ChangeForms.{after_of, before_of}
use Rattle.gp_ask.specs.HistoryForms as f
use Rattle.gp_ask.specs.Keyed.{cells_of}
use Rattle.gp_ask.specs.RowHistories.{history_text}
use Rattle.gp_ask.specs.RowLines.{keyed_line, row_line}
use Rattle.gp_ask.proofs.FewLines.{pushes-beyond, pushes-if}
use Rattle.gp_ask.proofs.row_histories.push_change.Goals as goal

pub returns-then-len-gt-MAX_ANSWER_ROWS : goal.returns-then-len-gt-MAX_ANSWER_ROWS
returns-then-len-gt-MAX_ANSWER_ROWS c =
    let changing = c.args.changing.now in
    let own = changing.own in
    let above : 50000 < length c.args.lines.now.items = omega (arith, c.len.ensures, c.if-len-gt-MAX_ANSWER_ROWS.true) in
    pushes-beyond (f.change_line changing.version own.t own.k (statement_view own.stmt.now) own.table c.args.id.now (cells_of c.args.row.now)) c.args.lines.now.items above

pub returns : goal.returns
returns c =
    let changing = c.args.changing.now in
    let own = changing.own in
    let old = c.args.lines.now.items in
    let statement = statement_view own.stmt.now in
    let within : length old ≤ 50000 = omega (arith, c.len.ensures, c.if-len-gt-MAX_ANSWER_ROWS.false) in
    let text = c.deref.ensures.value ∙ c.in_ok-text.ensures ∙ ap (λ (cells : List Cell). history_text changing.version own.t own.k (c.args.id.now, (before_of statement cells, after_of statement cells))) c.in_ok-cells.ensures in
    pushes-if c.push_line.result (f.change_line changing.version own.t own.k statement own.table c.args.id.now (cells_of c.args.row.now)) old c.push_line.new.rows.items within
    (subst (λ (text : List ℕ). OnOk c.push_line.result (c.push_line.new.rows.items ≡ old ++ keyed_line (length old) (row_line own.table c.args.id.now text) ∷ [])) text c.push_line.ensures)
