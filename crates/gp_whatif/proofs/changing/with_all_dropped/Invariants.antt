use Rattle.gp_whatif.specs.Changed.{dropped_of}
use Rattle.gp_whatif.proofs.ChangingLemmas.{Mapped}
use Rattle.gp_whatif.proofs.changing.with_all_dropped.Given as goal

-- the entries so far are copied, those of the transaction dropped
abbrev pub invariant-loop-place : goal.invariant-loop-place
invariant-loop-place l = Mapped (dropped_of l.t) l.log.entries l.place l.new.entries
