use Rattle.std.proofs.Common.{take}
use Rattle.std.specs.BTreeMap.{get}
use Rattle.std.specs.Option.{is_some}
use Rattle.gp_algebra.specs.Views.{statement_view}
use Rattle.gp_base.specs.Identities.{identity_cmp}
use Rattle.gp_ask.specs.HistoryForms.{Pushes, rows_changes}
use Rattle.gp_ask.proofs.row_histories.push_rows.Given as goal

-- the lines of the rows so far
abbrev pub invariant-loop-row : goal.invariant-loop-row
invariant-loop-row l =
    Pushes
    (rows_changes (λ id. is_some (get identity_cmp l.changing.asked.now id)) l.changing.version l.changing.own.t l.changing.own.k (statement_view l.changing.own.stmt.now)
    l.changing.own.table (take l.row-index l.rows))
    l.initial.lines.items l.lines.items
