use Rattle.std.proofs.Common.{◌≡◌, ◌++◌, drop}
use Rattle.std.specs.List.{flat_map}
use Rattle.gp_txn.specs.Passes.{of_entry, row_writes}
use Rattle.gp_txn.proofs.writes.base_writes.Given as goal

abbrev pub invariant-loop-placed : goal.invariant-loop-placed
invariant-loop-placed l =
    l.writes.items ++ flat_map (of_entry row_writes l.carried l.v l.spans) (drop l.placed-index l.slots) ≡ flat_map (of_entry row_writes l.carried l.v l.spans) l.slots
