use Rattle.std.proofs.Common.{ap, sym, ◌∙◌}
use Rattle.std.specs.Option.{option_map}
use Rattle.gp_grammar.specs.Limits.{Shape, both, passed_limit, query_shape, side_shape}
use Rattle.gp_syntax.specs.Measures.{earlier}
use Rattle.gp_syntax.specs.Refusals.{limit_of}
use Rattle.gp_syntax.specs.Views.{query_view, side_view}
use Rattle.gp_syntax.proofs.LimitLemmas.{whole-limit}
use Rattle.gp_syntax.proofs.limits.diff_limit.Goals as goal

pub returns : goal.returns
returns c =
    let sides : Shape = both (side_shape (side_view c.args.first.now)) (side_shape (side_view c.args.second.now)) in
    c.earlier.ensures
    ∙ ap (λ first. earlier first c.query_limit-query.result) c.sides_limit-sides.ensures
    ∙ ap (λ second. earlier (option_map limit_of (passed_limit sides)) second) c.query_limit-query.ensures
    ∙ sym (whole-limit sides (query_shape (query_view c.args.query.now)))
