use Rattle.std.proofs.Common.{ap, sym, ◌∙◌}
use Rattle.std.specs.Option.{option_map}
use Rattle.gp_grammar.specs.Limits.{passed_limit, side_shape}
use Rattle.gp_syntax.specs.Measures.{earlier}
use Rattle.gp_syntax.specs.Refusals.{limit_of}
use Rattle.gp_syntax.specs.Views.{side_view}
use Rattle.gp_syntax.proofs.LimitLemmas.{whole-limit}
use Rattle.gp_syntax.proofs.limits.sides_limit.Goals as goal

pub returns : goal.returns
returns c =
    c.earlier.ensures
    ∙ ap (λ first. earlier first c.side_limit-second.result) c.side_limit-first.ensures
    ∙ ap (λ second. earlier (option_map limit_of (passed_limit (side_shape (side_view c.args.first.now)))) second) c.side_limit-second.ensures
    ∙ sym (whole-limit (side_shape (side_view c.args.first.now)) (side_shape (side_view c.args.second.now)))
