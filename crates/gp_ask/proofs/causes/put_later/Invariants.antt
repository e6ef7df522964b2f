use Rattle.std.proofs.Common.{ℕ}
use Rattle.gp_ask.specs.Writes.{ArePutUpto}
use Rattle.gp_ask.proofs.causes.put_later.Given as goal

-- the lines of the first statements, this many, are put there, whatever their versions
abbrev pub invariant-loop-place : goal.invariant-loop-place
invariant-loop-place l = (limit : ℕ) → ArePutUpto l.asked l.writes l.before limit l.place l.lines
