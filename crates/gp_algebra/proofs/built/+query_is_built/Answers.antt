use Rattle.std.proofs.Common.{[], map, sym, ap, ◌∙◌}
use Rattle.gp_algebra.specs.PlainViews.{query_view, step_view}
use Rattle.gp_algebra.specs.WellBuilt as w
use Rattle.gp_algebra.proofs.BuiltLemmas.{is_among-is}
use Rattle.gp_algebra.proofs.built.+query_is_built.Goals as goal

pub returns-in-Step : goal.returns-in-Step
returns-in-Step t c =
    c.is_among.ensures
    ∙ (is_among-is c.args.earlier.now c.in-Step.j ∙ sym (ap (λ query. w.query_is_built (w.numbers_after [] (map step_view c.args.earlier.now)) (query_view query)) c.in-Step.is))
