use Rattle.std.proofs.Common.{◌≡◌, take}
use Rattle.gp_versions.specs.Chains.{ended_first, entered}
use Rattle.gp_versions.proofs.commit.end_entered.Given as goal

abbrev pub invariant-loop-write : goal.invariant-loop-write
invariant-loop-write l = l.spans ≡ ended_first (entered l.chains) l.version (take l.write-index l.writes) l.initial.spans
