use Rattle.std.proofs.Common.{◌≡◌, ◌≤◌, ◌-◌, drop, length}
use Rattle.gp_base.specs.Leaves.{digits_at}
use Rattle.gp_dumpline.proofs.IdentitySteps.{capped}
use Rattle.gp_dumpline.proofs.identity.digits_at.Given as goal

abbrev pub invariant-loop-at : goal.invariant-loop-at
invariant-loop-at l = record {
  told : capped (digits_at l.number (drop l.at l.bytes)) ≡ capped (digits_at 0 l.bytes);
  few : l.number ≤ 1000000000;
  within : l.at ≤ length l.bytes;
}

abbrev pub decreases-loop-at : goal.decreases-loop-at
decreases-loop-at l = length l.bytes - l.at
