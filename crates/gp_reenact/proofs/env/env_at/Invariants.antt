use Rattle.std.proofs.Common.{◌≡◌, take}
use Rattle.gp_reenact.specs.Travel.{scans_at}
use Rattle.gp_reenact.proofs.env.env_at.Given as goal

abbrev pub invariant-loop-at : goal.invariant-loop-at
invariant-loop-at l = l.found ≡ scans_at l.versions (take l.at-index l.scans)
