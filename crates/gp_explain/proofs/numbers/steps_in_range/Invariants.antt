use Rattle.gp_explain.proofs.Prelude.{drop, AllByRecursion, step_view, StepInRange}
use Rattle.gp_explain.proofs.numbers.steps_in_range.Given as goal

-- if those that remain are in range, all are
abbrev pub invariant-loop-step : goal.invariant-loop-step
invariant-loop-step l =
    AllByRecursion (λ step. StepInRange (step_view step)) (drop l.step-index l.steps) → AllByRecursion (λ step. StepInRange (step_view step)) l.steps
