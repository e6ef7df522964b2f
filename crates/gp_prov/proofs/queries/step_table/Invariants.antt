use Rattle.std.proofs.Common.{◌≡◌, map, drop}
use Rattle.gp_algebra.specs.AnnotatedQueries.{step_table}
use Rattle.gp_algebra.specs.QueryViews.{annotated_step_view}
use Rattle.gp_prov.proofs.queries.step_table.Given as goal

-- none of the steps so far has the number
abbrev pub invariant-loop-step : goal.invariant-loop-step
invariant-loop-step l = step_table (map annotated_step_view (drop l.step-index l.steps)) l.j ≡ step_table (map annotated_step_view l.steps) l.j
