use Rattle.std.proofs.Common.{◌≡◌, ◌≤◌, ◌++◌, drop, length, map}
use Rattle.gp_txn.specs.Ascending.{place_of}
use Rattle.gp_txn.specs.Equating.{found_slots}
use Rattle.gp_txn.specs.Merging.{merged}
use Rattle.gp_txn.proofs.lookup.with_written.Given as goal

abbrev pub invariant-loop-placed : goal.invariant-loop-placed
invariant-loop-placed l = record {
  within : l.next ≤ length l.found.items;
  merged : l.all.items ++ merged (map place_of (found_slots l.equality.column l.equality.cell.now (drop l.placed-index l.slots))) (drop l.next l.found.items)
      ≡ merged (map place_of (found_slots l.equality.column l.equality.cell.now l.slots)) l.found.items;
}
