use Rattle.std.proofs.Common.{◌≡◌, ◌+◌, ◌≤◌, ◌++◌, length, reverse, vec_capacity, vec_len}
use Rattle.std.specs.Vec.Iter.{into_iter_items}
use Rattle.gp_txn.specs.Slots.{put_all}
use Rattle.gp_txn.proofs.slots.put_lifted.Given as goal

abbrev pub invariant-loop-placed : goal.invariant-loop-placed
invariant-loop-placed l = record {
  items : l.list.items ++ put_all (into_iter_items l.placed-iterator) (reverse l.behind.items) ≡ l.initial.list.items ++ put_all (into_iter_items l.initial.placed-iterator) (reverse l.initial.behind.items);
  room : vec_len l.list + vec_len l.behind + length (into_iter_items l.placed-iterator) ≤ vec_capacity l.list;
  behind : vec_len l.behind ≤ vec_capacity l.behind;
}

abbrev pub invariant-lower : goal.invariant-lower
invariant-lower l = record {
  items : l.list.items ++ reverse l.behind.items ≡ l.initial.list.items ++ reverse l.initial.behind.items;
  room : vec_len l.list + vec_len l.behind ≤ vec_capacity l.list;
}

abbrev pub decreases-lower : goal.decreases-lower
decreases-lower l = vec_len l.behind
