use Rattle.std.proofs.Common.{◌≡◌, ◌++◌, drop}
use Rattle.gp_serial.proofs.running.row_of.Given as goal

-- the cells that remain are the others
abbrev pub invariant-loop-cell : goal.invariant-loop-cell
invariant-loop-cell l = l.copy ++ drop l.cell-index l.row ≡ l.row
