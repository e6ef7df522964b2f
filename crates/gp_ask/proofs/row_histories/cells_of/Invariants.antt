use Rattle.std.proofs.Common.{◌≡◌, take}
use Rattle.gp_ask.proofs.row_histories.cells_of.Given as goal

-- the cells so far
abbrev pub invariant-loop-i : goal.invariant-loop-i
invariant-loop-i l = l.copy ≡ take l.i l.cells
