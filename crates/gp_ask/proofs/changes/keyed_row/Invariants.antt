use Rattle.std.proofs.Common.{◌≡◌, ◌∷◌, pos, take}
use Rattle.gp_base.specs.declared.cell.Cell.TheVariants as cell
use Rattle.gp_ask.proofs.changes.keyed_row.Given as goal

-- the key, and the cells so far
abbrev pub invariant-loop-i : goal.invariant-loop-i
invariant-loop-i l = l.keyed ≡ cell.Id l.id ∷ cell.Int (pos l.place) ∷ take l.i l.cells
