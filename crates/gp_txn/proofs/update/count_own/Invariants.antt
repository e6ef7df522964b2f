use Rattle.std.proofs.Common.{◌≡◌, ◌+◌, ◌≤◌, map, drop}
use Rattle.gp_txn.specs.Changes.{change_view}
use Rattle.gp_txn.specs.Overlay.{own_row}
use Rattle.gp_txn.specs.Slots.{count_touched}
use Rattle.gp_txn.proofs.update.count_own.Given as goal

abbrev pub invariant-loop-stored : goal.invariant-loop-stored
invariant-loop-stored l = record {
  count : l.count + count_touched (change_view l.change) (map own_row (drop l.stored-index l.own)) ≡ count_touched (change_view l.change) (map own_row l.own);
  few : l.count ≤ l.stored-index;
}
