use Rattle.std.proofs.Common.{◌+◌, [], map, take, drop, sym, ap, ◌∙◌}
use Rattle.std.specs.Prelude.{◌&&◌}
use Rattle.gp_algebra.specs.PlainViews.{step_view}
use Rattle.gp_algebra.specs.WellBuilt.{numbers_after, steps_are_built}
use Rattle.gp_algebra.proofs.BuiltLemmas.{steps-here}
use Rattle.gp_algebra.proofs.built.steps_are_built.Goals as goal

pub loop-place-preserved : goal.loop-place-preserved
loop-place-preserved c =
    let steps = c.args.steps.now in
    let next = c.loop-place.place + 1 in
    let rest = steps_are_built (numbers_after [] (map step_view (take next steps))) (map step_view (drop next steps)) in
    let here = steps-here steps c.loop-place.place c.index-steps-place.result c.loop-place-test.true c.index-steps-place.is in
    ap (λ first. first && rest) c.if-not-step_is_built.ensures ∙ (sym here ∙ c.loop-place.invariant)
