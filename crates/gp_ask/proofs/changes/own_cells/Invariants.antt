use Rattle.std.proofs.Common.{◌≡◌, ◌++◌, drop}
use Rattle.gp_ask.proofs.changes.own_cells.Given as goal

-- the cells that remain are the others
abbrev pub invariant-loop-i : goal.invariant-loop-i
invariant-loop-i l = l.copy ++ drop l.i l.cells ≡ drop 2 l.cells
