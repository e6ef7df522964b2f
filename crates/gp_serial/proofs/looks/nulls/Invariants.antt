use Rattle.std.proofs.Common.{◌≡◌, replicate}
use Rattle.gp_base.specs.declared.cell.Cell.TheVariants as cell
use Rattle.gp_serial.proofs.looks.nulls.Given as goal

abbrev pub invariant-loop : goal.invariant-loop
invariant-loop l = l.cells.items ≡ replicate l.counter cell.Null
