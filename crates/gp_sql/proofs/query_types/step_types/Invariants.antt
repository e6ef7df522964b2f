use Rattle.std.proofs.Common.{◌≡◌, drop}
use Rattle.gp_sql.specs.StepLists.{types_after}
use Rattle.gp_sql.specs.Types.{no_types}
use Rattle.gp_sql.proofs.query_types.step_types.Given as goal

-- what was found is the answer, unless a later step has the number
abbrev pub invariant-loop-step : goal.invariant-loop-step
invariant-loop-step l = types_after (drop l.step-index l.steps) (λ k. l.found) l.j ≡ types_after l.steps no_types l.j
