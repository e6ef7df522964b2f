use Rattle.std.proofs.Common.{◌≡◌, take}
use Rattle.std.specs.List.{sum_by}
use Rattle.gprom_cli.proofs.SummaryLemmas.{span_count}
use Rattle.gprom_cli.proofs.summary.count_spans.Given as goal

-- the row lines of the tables so far
abbrev pub invariant-loop-table : goal.invariant-loop-table
invariant-loop-table l = l.spans ≡ sum_by span_count (take l.table-index l.dump.versions)
