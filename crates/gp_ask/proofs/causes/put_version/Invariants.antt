use Rattle.std.proofs.Common.{suc}
use Rattle.gp_ask.specs.Writes.{ArePutUpto}
use Rattle.gp_ask.proofs.causes.put_version.Given as goal

-- the lines of the first statements, this many, are put there
abbrev pub invariant-loop-place : goal.invariant-loop-place
invariant-loop-place l = ArePutUpto l.asked l.writes l.before (suc l.before) l.place l.lines
