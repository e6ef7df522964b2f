use Rattle.std.proofs.Common.{◌≡◌, ◌++◌, length, take}
use Rattle.std.specs.BTreeMap.{get}
use Rattle.gp_algebra.specs.Views.{statement_view}
use Rattle.gp_base.specs.Identities.{identity_cmp}
use Rattle.gp_log.specs.Logs.{log_view}
use Rattle.gp_ask.specs.ConflictForms.{rows_conflicts}
use Rattle.gp_ask.specs.RowLines.{keyed_from}
use Rattle.gp_ask.proofs.conflicts.push_rows.Given as goal

-- the lines of the rows so far
abbrev pub invariant-loop-row : goal.invariant-loop-row
invariant-loop-row l =
    l.lines.items
    ≡ l.initial.lines.items
    ++ keyed_from (length l.initial.lines.items)
    (rows_conflicts (log_view l.looking.log.now.entries) l.looking.name.now (get identity_cmp l.looking.met.now) l.looking.base l.looking.own.t l.looking.own.k
    (statement_view l.looking.own.stmt.now) l.looking.own.table (take l.row-index l.rows))
