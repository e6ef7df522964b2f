use Rattle.std.proofs.Common.{◌≡◌, take}
use Rattle.gp_algebra.specs.Plain.{no_steps}
use Rattle.gp_exec.specs.Liveness.{steps_after}
use Rattle.gp_exec.proofs.done.rows_of.Given as goal

-- the last of the steps so far
abbrev pub invariant-loop-step : goal.invariant-loop-step
invariant-loop-step g l = l.found ≡ steps_after (take l.step-index l.done) no_steps l.j
