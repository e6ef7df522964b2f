use Rattle.std.proofs.Common.{◌≡◌, take}
use Rattle.gp_history.proofs.monomials.encoded_row.Given as goal

abbrev pub invariant-loop-cell : goal.invariant-loop-cell
invariant-loop-cell l = l.row ≡ take l.cell-index l.cells
