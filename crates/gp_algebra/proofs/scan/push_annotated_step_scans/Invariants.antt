use Rattle.std.proofs.Common.{◌≡◌, ◌++◌, take}
use Rattle.std.specs.List.{flat_map}
use Rattle.gp_algebra.specs.QueryViews.{annotated_view}
use Rattle.gp_algebra.specs.Scans.{annotated_query_scans}
use Rattle.gp_algebra.proofs.scan.push_annotated_step_scans.Given as goal

-- the scans of the steps so far are appended
abbrev pub invariant-steps : goal.invariant-steps
invariant-steps l = l.found.items ≡ l.initial.found.items ++ flat_map (λ step. annotated_query_scans (annotated_view step.query)) (take l.step-index l.steps)
