use Rattle.std.proofs.Common.{◌≡◌, ◌++◌, take}
use Rattle.gp_ask.proofs.deltas.add_cells.Given as goal

-- the cells so far
abbrev pub invariant-loop-cell : goal.invariant-loop-cell
invariant-loop-cell l = l.row ≡ l.initial.row ++ take l.cell-index l.cells
