use Rattle.std.proofs.Common.{◌≡◌, false}
use Rattle.gp_dumpline.specs.RowForms.{parts_of}
use Rattle.gp_dumpline.proofs.CellLemmas.{parts_from}
use Rattle.gp_dumpline.proofs.cells.first_part.Given as goal

abbrev pub invariant-loop-i : goal.invariant-loop-i
invariant-loop-i l = parts_from l.i l.inside l.text ≡ parts_of false l.text
