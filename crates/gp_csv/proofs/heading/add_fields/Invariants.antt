use Rattle.std.proofs.Common.{◌≡◌, drop}
use Rattle.csv.specs.Records.{fields_of}
use Rattle.gp_csv.specs.Headings.{headings_from}
use Rattle.gp_csv.proofs.heading.add_fields.Given as goal

abbrev pub invariant-loop-field : goal.invariant-loop-field
invariant-loop-field l = (l.field-iterator.row.now ≡ l.record) × (headings_from l.headings.items (drop l.field-iterator.at (fields_of l.record)) ≡ headings_from l.initial.headings.items (fields_of l.record))
