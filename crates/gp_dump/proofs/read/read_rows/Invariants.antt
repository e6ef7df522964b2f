use Rattle.std.proofs.Common.{◌≡◌, ◌≤◌, ◌+◌, List, [], length, reverse}
use Rattle.gp_machine.specs.Entries.{Entry}
use Rattle.gp_versions.specs.declared.span.Span.{Span}
use Rattle.gp_dump.specs.declared.dump.TheConstants.{MAX_DUMP_LENGTH}
use Rattle.gp_dump.specs.Reading.{AreDue, verdict_from}
use Rattle.gp_dump.specs.Rules.{Rows}
use Rattle.gp_dump.proofs.RowLemmas.{ArePlaced}
use Rattle.gp_dump.proofs.read.read_rows.Given as goal

abbrev pub invariant-loop-left : goal.invariant-loop-left
invariant-loop-left l = record {
  told : (log : List Entry) (tables : List (List Span)) → AreDue l.cols l.versions log tables
      → verdict_from l.fn.rest.bytes.now (Rows l.count log tables []) l.fn.rest.number ≡ verdict_from l.rest.bytes.now (Rows l.left log tables (reverse l.spans.items)) l.rest.number;
  placed : ArePlaced l.versions (reverse l.spans.items);
  room : l.rest.number + length l.rest.bytes.now ≤ MAX_DUMP_LENGTH + 1;
  all : length l.spans.items + l.left ≡ l.count;
}

abbrev pub decreases-loop-left : goal.decreases-loop-left
decreases-loop-left l = l.left
