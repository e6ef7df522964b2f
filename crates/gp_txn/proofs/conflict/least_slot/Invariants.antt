use Rattle.std.proofs.Common.{◌≡◌, None, drop}
use Rattle.std.specs.List.{flat_map}
use Rattle.gp_txn.specs.LeastSoFar.{least_of}
use Rattle.gp_txn.specs.Passes.{of_entry, row_lates}
use Rattle.gp_txn.proofs.conflict.least_slot.Given as goal

abbrev pub invariant-loop-placed : goal.invariant-loop-placed
invariant-loop-placed l =
    least_of l.found (flat_map (of_entry row_lates l.carried l.v l.spans) (drop l.placed-index l.slots)) ≡ least_of None (flat_map (of_entry row_lates l.carried l.v l.spans) l.slots)
