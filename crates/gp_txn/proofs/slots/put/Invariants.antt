use Rattle.std.proofs.Common.{◌≡◌, ◌+◌, ◌<◌, ◌≤◌, ◌++◌, List, reverse, vec_capacity, vec_len}
use Rattle.gp_txn.specs.declared.overlay.Placed.{Placed}
use Rattle.gp_txn.specs.Slots.{put_at}
use Rattle.gp_txn.proofs.slots.put.Given as goal

abbrev pub invariant-below : goal.invariant-below
invariant-below l = record {
  items : (more : List Placed → List Placed) → l.list.items ++ put_at l.new more (reverse l.behind.items) ≡ l.initial.list.items ++ put_at l.new more (reverse l.initial.behind.items);
  len : vec_len l.list + vec_len l.behind ≡ vec_len l.initial.list + vec_len l.initial.behind;
  room : vec_len l.list + vec_len l.behind < vec_capacity l.list;
  capacity : vec_capacity l.list ≡ vec_capacity l.initial.list;
  behind : vec_len l.behind ≤ vec_capacity l.behind;
}

abbrev pub decreases-below : goal.decreases-below
decreases-below l = vec_len l.behind
