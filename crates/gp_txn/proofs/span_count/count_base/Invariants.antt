use Rattle.std.proofs.Common.{◌≡◌, ◌+◌, ◌≤◌, drop, length}
use Rattle.std.specs.List.{flat_map}
use Rattle.gp_base.specs.Annotated.{unannotated}
use Rattle.gp_versions.specs.Commits.{live_rows}
use Rattle.gp_txn.specs.Passes.{of_entry, row_writes}
use Rattle.gp_txn.proofs.span_count.count_base.Given as goal

abbrev pub invariant-loop-placed : goal.invariant-loop-placed
invariant-loop-placed l = record {
  rest : l.count + length (live_rows unannotated (flat_map (of_entry row_writes l.carried l.v l.spans) (drop l.placed-index l.slots))) ≡ length (live_rows unannotated (flat_map (of_entry row_writes l.carried l.v l.spans) l.slots));
  few : l.count ≤ l.placed-index;
}
