use Rattle.std.proofs.Common.{◌≡◌, ◌+◌, drop, map}
use Rattle.csv.specs.Records.{fields_of}
use Rattle.gp_csv.specs.Sheets.{rows_from}
use Rattle.gp_csv.proofs.SheetLemmas.{rows_after}
use Rattle.gp_csv.proofs.sheet.read_rows.Given as goal

abbrev pub invariant-loop-place : goal.invariant-loop-place
invariant-loop-place l = rows_after l.rows l.columns (l.place + 2) (map fields_of (drop l.place l.records)) ≡ rows_from l.columns 2 (map fields_of l.records)
