use Rattle.gp_versions.specs.Chains.{HasNone, entered, up_to}
use Rattle.gp_versions.proofs.chains.Chains.newest_of.Given as goal

-- a walk has met no span of the identity
abbrev pub invariant-loop-walk : goal.invariant-loop-walk
invariant-loop-walk l = HasNone l.spans l.id (entered l.self) l.walk

abbrev pub decreases-loop-walk : goal.decreases-loop-walk
decreases-loop-walk l = up_to l.walk
