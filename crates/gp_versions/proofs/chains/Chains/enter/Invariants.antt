use Rattle.std.proofs.Common.{◌-◌, length}
use Rattle.gp_versions.specs.Chains.{AreChained, entered}
use Rattle.gp_versions.specs.Keys.{keys_by}
use Rattle.gp_versions.proofs.chains.Chains.enter.Given as goal

abbrev pub invariant-loop-by : goal.invariant-loop-by
invariant-loop-by l = AreChained l.self (keys_by l.by l.spans)

abbrev pub decreases-loop-by : goal.decreases-loop-by
decreases-loop-by l = length l.spans - entered l.self
