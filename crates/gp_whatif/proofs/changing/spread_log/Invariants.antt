use Rattle.gp_whatif.specs.Changed.{spread}
use Rattle.gp_whatif.proofs.ChangingLemmas.{Mapped}
use Rattle.gp_whatif.proofs.changing.spread_log.Given as goal

-- the entries so far are copied, on lines with room behind them
abbrev pub invariant-loop-place : goal.invariant-loop-place
invariant-loop-place l = Mapped (spread l.times) l.log.entries l.place l.new.entries
