use Rattle.std.proofs.Common.{◌≡◌, ◌++◌, map, take}
use Rattle.gp_txn.specs.Overlay.{own_write}
use Rattle.gp_txn.proofs.writes.push_own.Given as goal

abbrev pub invariant-loop-stored : goal.invariant-loop-stored
invariant-loop-stored l = l.writes.items ≡ l.initial.writes.items ++ map own_write (take l.stored-index l.own)
