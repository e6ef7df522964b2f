use Rattle.std.proofs.Common.{◌≡◌, ◌++◌, map, drop}
use Rattle.gp_algebra.specs.PlainViews.{step_view}
use Rattle.gp_algebra.specs.QueryViews.{annotated_step_view}
use Rattle.gp_prov.specs.Translating.{plain_step_over}
use Rattle.gp_prov.proofs.program.plain_steps.Given as goal

-- the steps so far and the others are all
abbrev pub invariant-loop-step : goal.invariant-loop-step
invariant-loop-step l =
    map step_view l.new ++ map (plain_step_over l.translation) (map annotated_step_view (drop l.step-index l.step-items))
    ≡ map (plain_step_over l.translation) (map annotated_step_view l.step-items)
