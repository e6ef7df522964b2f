use Rattle.std.proofs.Common.{◌≡◌, drop}
use Rattle.gp_serial.specs.Reasons.{first_of, rewrites}
use Rattle.gp_serial.proofs.reason.first_rewrite.Given as goal

-- the changes that remain decide
abbrev pub invariant-loop-other : goal.invariant-loop-other
invariant-loop-other l = first_of (rewrites l.change l.writer (drop l.other-index l.changes)) ≡ first_of (rewrites l.change l.writer l.changes)
