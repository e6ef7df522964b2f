use Rattle.std.proofs.Common.{◌≡◌, ◌+◌, ◌-◌, ◌≤◌, ◌++◌, length, reverse, vec_capacity, vec_len}
use Rattle.gp_txn.proofs.slots.lift.Given as goal

abbrev pub invariant-lift : goal.invariant-lift
invariant-lift l = record {
  items : l.list.items ++ reverse l.behind.items ≡ l.initial.list.items ++ reverse l.initial.behind.items;
  len : vec_len l.list + vec_len l.behind ≡ vec_len l.initial.list;
  front : length l.list.items + vec_len l.behind ≡ length l.initial.list.items;
  few : vec_len l.behind ≤ l.count;
  room : l.count ≤ vec_capacity l.behind;
  capacity : vec_capacity l.list ≡ vec_capacity l.initial.list;
}

abbrev pub decreases-lift : goal.decreases-lift
decreases-lift l = l.count - vec_len l.behind
