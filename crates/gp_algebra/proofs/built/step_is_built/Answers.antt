use Rattle.std.proofs.Common.{◌&&◌, [], map, sym, ap, ◌∙◌}
use Rattle.gp_algebra.specs.PlainViews.{query_view, step_view}
use Rattle.gp_algebra.specs.WellBuilt as w
use Rattle.gp_algebra.proofs.BuiltLemmas.{is_above-is}
use Rattle.gp_algebra.proofs.built.step_is_built.Goals as goal

pub returns-then-is_above : goal.returns-then-is_above
returns-then-is_above c =
    let built = w.step_is_built (w.numbers_after [] (map step_view c.args.earlier.now)) (query_view c.args.step.now.query) in
    let above = c.is_above.ensures ∙ is_above-is c.args.earlier.now c.args.step.now.j in
    c.contents_are_built.ensures ∙ sym (ap (λ above. above && built) (sym above ∙ c.if-is_above.true))

pub returns-else-is_above : goal.returns-else-is_above
returns-else-is_above c =
    let built = w.step_is_built (w.numbers_after [] (map step_view c.args.earlier.now)) (query_view c.args.step.now.query) in
    let above = c.is_above.ensures ∙ is_above-is c.args.earlier.now c.args.step.now.j in
    c.if-is_above.false ∙ sym (ap (λ above. above && built) (sym above ∙ c.if-is_above.false))
