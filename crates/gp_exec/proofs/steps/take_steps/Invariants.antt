use Rattle.std.proofs.Common.{◌≡◌, drop, true}
use Rattle.std.specs.List.{list_all}
use Rattle.gp_algebra.specs.Plain.{no_steps}
use Rattle.gp_exec.specs.Liveness.{steps_after}
use Rattle.gp_exec.proofs.steps.take_steps.Given as goal

-- the steps that remain decide
abbrev pub invariant-loop-i : goal.invariant-loop-i
invariant-loop-i g l =
    let s = g.S.Stepper in
    record {
      same : s.outcome l.stepper (drop l.i l.steps) l.last (λ j. s.seen (steps_after l.done.items no_steps j)) ≡ s.outcome l.stepper l.steps l.last no_steps;
      ready : list_all (λ step. s.can_take step.query) (drop l.i l.steps) ≡ true;
    }
