use Rattle.std.proofs.Common.{◌≡◌, ◌++◌, drop}
use Rattle.gp_algebra.specs.Views.{statement_view}
use Rattle.gp_serial.specs.Running.{changed_of}
use Rattle.gp_serial.proofs.running.changed_of.Given as goal

-- the rows that remain give the others
abbrev pub invariant-loop-row : goal.invariant-loop-row
invariant-loop-row l = l.changed.items ++ changed_of l.t l.k (statement_view l.stmt) (drop l.row-index l.rows) ≡ changed_of l.t l.k (statement_view l.stmt) l.rows
