use Rattle.std.proofs.Common.{◌≡◌, [], map, take, drop}
use Rattle.gp_algebra.specs.PlainViews.{step_view}
use Rattle.gp_algebra.specs.WellBuilt.{numbers_after, steps_are_built}
use Rattle.gp_algebra.proofs.built.steps_are_built.Given as goal

-- the rest of the steps decides
abbrev pub invariant-loop-place : goal.invariant-loop-place
invariant-loop-place l =
    steps_are_built (numbers_after [] (map step_view (take l.place l.steps))) (map step_view (drop l.place l.steps)) ≡ steps_are_built [] (map step_view l.steps)
