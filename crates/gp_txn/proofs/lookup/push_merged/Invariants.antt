use Rattle.std.proofs.Common.{◌≡◌, ℕ, ◌-◌, ◌≤◌, List, ◌++◌, drop, length}
use Rattle.gp_txn.specs.Merging.{merged_at}
use Rattle.gp_txn.proofs.lookup.push_merged.Given as goal

abbrev pub invariant-loop-n : goal.invariant-loop-n
invariant-loop-n l = record {
  within : l.n ≤ length l.found;
  merged : (more : List ℕ → List ℕ) → l.all.items ++ merged_at l.place more (drop l.n l.found) ≡ l.initial.all.items ++ merged_at l.place more (drop l.initial.n l.found);
}

abbrev pub decreases-loop-n : goal.decreases-loop-n
decreases-loop-n l = length l.found - l.n
