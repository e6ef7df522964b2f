use Rattle.std.proofs.Common.{◌≡◌, drop}
use Rattle.gp_serial.specs.Reasons.{first_write}
use Rattle.gp_serial.proofs.reason.first_write.Given as goal

-- the changes that remain decide
abbrev pub invariant-loop-change : goal.invariant-loop-change
invariant-loop-change l = first_write l.a l.b l.changes (drop l.change-index l.changes) ≡ first_write l.a l.b l.changes l.changes
