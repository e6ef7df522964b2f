use Rattle.gp_whatif.specs.Changing.{IsLastStep}
use Rattle.gp_whatif.proofs.changing.last_step.Given as goal

-- the last step among the entries so far
abbrev pub invariant-loop-place : goal.invariant-loop-place
invariant-loop-place l = IsLastStep l.t l.log.entries l.place l.last
