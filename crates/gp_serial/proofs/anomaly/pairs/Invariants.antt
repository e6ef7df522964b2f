use Rattle.std.proofs.Common.{◌≡◌, ◌++◌, drop}
use Rattle.std.specs.Prelude.{get_or}
use Rattle.gp_serial.specs.PairCycles.{pairs_of, pairs_to}
use Rattle.gp_serial.proofs.anomaly.pairs.Given as goal

-- the transactions that remain give the other pairs
abbrev pub invariant-loop-place : goal.invariant-loop-place
invariant-loop-place l = l.pairs.items ++ pairs_to (get_or l.cycle 0 0) (drop l.place l.cycle) ≡ pairs_of l.cycle
