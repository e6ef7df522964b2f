use Rattle.std.proofs.Common.{◌≡◌, drop}
use Rattle.csv.specs.Records.{fields_of}
use Rattle.gp_csv.specs.Fields.{cells_from}
use Rattle.gp_csv.proofs.SheetLemmas.{cells_after}
use Rattle.gp_csv.proofs.sheet.add_cells.Given as goal

abbrev pub invariant-loop-place : goal.invariant-loop-place
invariant-loop-place l = cells_after l.row l.place (fields_of l.record) (drop l.place l.columns) ≡ cells_from 0 (fields_of l.record) l.columns
