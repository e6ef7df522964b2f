use Rattle.std.proofs.Common.{◌≡◌, map, take}
use Rattle.gp_txn.specs.CarriedCode.{carried_id}
use Rattle.gp_txn.proofs.carried.sorted_ids.Given as goal

abbrev pub invariant-loop-row : goal.invariant-loop-row
invariant-loop-row l = l.ids.items ≡ map carried_id (take l.row-index l.list)
