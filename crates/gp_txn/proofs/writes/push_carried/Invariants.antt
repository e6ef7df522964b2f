use Rattle.std.proofs.Common.{◌≡◌, ◌++◌, map, take}
use Rattle.gp_txn.specs.Overlay.{carried_write}
use Rattle.gp_txn.proofs.writes.push_carried.Given as goal

abbrev pub invariant-loop-row : goal.invariant-loop-row
invariant-loop-row l = l.writes.items ≡ l.initial.writes.items ++ map carried_write (take l.row-index l.carried)
