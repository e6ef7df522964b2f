use Rattle.gp_explain.proofs.Prelude.{subst, map, AllByRecursion, step_view, StepInRange}
use Rattle.gp_explain.proofs.RangeLoops.{each_view}
use Rattle.gp_explain.proofs.numbers.program_in_range.Goals as goal

pub returns : goal.returns
returns c = record {
  steps = subst (λ steps. AllByRecursion StepInRange (map step_view steps)) c.as_slice.ensures (each_view StepInRange step_view c.as_slice.result.now c.steps_in_range.ensures);
  last = c.query_in_range.ensures;
}
