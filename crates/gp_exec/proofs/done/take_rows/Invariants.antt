use Rattle.std.proofs.Common.{◌≡◌, ◌++◌, map, drop, take}
use Rattle.gp_algebra.specs.Plain.{no_steps}
use Rattle.gp_exec.specs.Liveness.{emptied, steps_after}
use Rattle.gp_exec.proofs.done.take_rows.Given as goal

abbrev pub invariant-loop-step : goal.invariant-loop-step
invariant-loop-step g l =
    record {
      rows : l.rows.items ≡ steps_after (take l.step-index l.initial.done) no_steps l.j;
      emptied : l.done ≡ map (emptied l.j) (take l.step-index l.initial.done) ++ drop l.step-index l.initial.done;
    }
