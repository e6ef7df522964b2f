use Rattle.std.proofs.Common.{◌≡◌, ◌+◌, ◌≤◌, drop, length}
use Rattle.std.specs.List.{flat_map}
use Rattle.gp_txn.specs.Passes.{of_entry, row_dropped}
use Rattle.gp_txn.proofs.snapshot.count_dropped.Given as goal

abbrev pub invariant-loop-placed : goal.invariant-loop-placed
invariant-loop-placed l = record {
  rest : l.count + length (flat_map (of_entry row_dropped l.carried l.v l.spans) (drop l.placed-index l.slots)) ≡ length (flat_map (of_entry row_dropped l.carried l.v l.spans) l.slots);
  few : l.count ≤ l.placed-index;
}
