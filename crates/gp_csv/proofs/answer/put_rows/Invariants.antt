use Rattle.std.proofs.Common.{◌≡◌, ◌++◌, map, take}
use Rattle.gp_csv.specs.Answers.{csv_text, record_of}
use Rattle.gp_csv.specs.Written.{IsBetween, written}
use Rattle.gp_csv.proofs.answer.put_rows.Given as goal

abbrev pub invariant-loop-row : goal.invariant-loop-row
invariant-loop-row l = IsBetween l.wtr × (written l.wtr ≡ written l.initial.wtr ++ csv_text (map (record_of l.number) (take l.row-index l.rows)))
