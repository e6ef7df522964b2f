use Rattle.std.proofs.Common.{ap, sym, ◌∙◌}
use Rattle.std.specs.Option.{option_map}
use Rattle.gp_grammar.specs.Limits.{changes_shape, passed_limit, query_shape}
use Rattle.gp_syntax.specs.Measures.{earlier}
use Rattle.gp_syntax.specs.Refusals.{limit_of}
use Rattle.gp_syntax.specs.Views.{changes_view, query_view}
use Rattle.gp_syntax.proofs.LimitLemmas.{whole-limit}
use Rattle.gp_syntax.proofs.limits.what_if_limit.Goals as goal

pub returns : goal.returns
returns c =
    c.earlier.ensures
    ∙ ap (λ first. earlier first c.query_limit-second.result) c.changes_limit-first.ensures
    ∙ ap (λ second. earlier (option_map limit_of (passed_limit (changes_shape (changes_view c.args.changes.now)))) second) c.query_limit-second.ensures
    ∙ sym (whole-limit (changes_shape (changes_view c.args.changes.now)) (query_shape (query_view c.args.query.now)))
