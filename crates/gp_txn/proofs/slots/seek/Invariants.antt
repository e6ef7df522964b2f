use Rattle.std.proofs.Common.{◌≡◌, length}
use Rattle.gp_txn.specs.Enough.{seek}
use Rattle.gp_txn.proofs.slots.seek.Given as goal

abbrev pub invariant-loop-first : goal.invariant-loop-first
invariant-loop-first l = seek l.place l.ahead ≡ seek l.place l.slots

abbrev pub decreases-loop-first : goal.decreases-loop-first
decreases-loop-first l = length l.ahead
