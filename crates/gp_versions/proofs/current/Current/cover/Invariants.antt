use Rattle.std.proofs.Common.{◌-◌, length}
use Rattle.gp_versions.specs.Listed.{IsCurrent}
use Rattle.gp_versions.proofs.current.Current.cover.Given as goal

abbrev pub invariant-loop-self : goal.invariant-loop-self
invariant-loop-self l = IsCurrent l.self l.spans

abbrev pub decreases-loop-self : goal.decreases-loop-self
decreases-loop-self l = length l.spans - l.self.covered
