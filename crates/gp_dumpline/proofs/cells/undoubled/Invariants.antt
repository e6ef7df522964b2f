use Rattle.std.proofs.Common.{◌≡◌, length}
use Rattle.gp_dumpline.specs.RowForms.{unquoted}
use Rattle.gp_dumpline.proofs.CellLemmas.{behind}
use Rattle.gp_dumpline.proofs.cells.undoubled.Given as goal

abbrev pub invariant-loop-rest : goal.invariant-loop-rest
invariant-loop-rest l = behind l.bytes.items (unquoted l.rest) ≡ unquoted l.text

abbrev pub decreases-loop-rest : goal.decreases-loop-rest
decreases-loop-rest l = length l.rest
