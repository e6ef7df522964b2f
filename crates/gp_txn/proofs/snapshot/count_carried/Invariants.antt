use Rattle.std.proofs.Common.{◌≡◌, ◌≤◌, ◌+◌, length, drop}
use Rattle.std.specs.List.{filter_map}
use Rattle.gp_txn.specs.Overlay.{carried_row}
use Rattle.gp_txn.proofs.snapshot.count_carried.Given as goal

abbrev pub invariant-loop-row : goal.invariant-loop-row
invariant-loop-row l = record {
  rest : l.count + length (filter_map carried_row (drop l.row-index l.carried)) ≡ length (filter_map carried_row l.carried);
  few : l.count ≤ l.row-index;
}
