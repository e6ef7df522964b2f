use Rattle.std.proofs.Common.{◌≡◌, take}
use Rattle.gp_ask.specs.Lines.{transaction_lines}
use Rattle.gp_ask.proofs.logs.log_lines.Given as goal

-- the lines of the entries so far
abbrev pub invariant-loop-place : goal.invariant-loop-place
invariant-loop-place l = l.lines ≡ transaction_lines l.t (take l.place l.log.entries)
