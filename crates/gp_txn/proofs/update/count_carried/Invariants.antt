use Rattle.std.proofs.Common.{◌≡◌, ◌+◌, ◌≤◌, drop}
use Rattle.std.specs.List.{filter_map}
use Rattle.gp_txn.specs.Changes.{change_view}
use Rattle.gp_txn.specs.Overlay.{carried_row}
use Rattle.gp_txn.specs.Slots.{count_touched}
use Rattle.gp_txn.proofs.update.count_carried.Given as goal

abbrev pub invariant-loop-row : goal.invariant-loop-row
invariant-loop-row l = record {
  count : l.count + count_touched (change_view l.change) (filter_map carried_row (drop l.row-index l.carried)) ≡ count_touched (change_view l.change) (filter_map carried_row l.carried);
  few : l.count ≤ l.row-index;
}
