use Rattle.std.proofs.Common.{length, ap, sym, ◌∙◌}
use Rattle.std.specs.Option.{option_map}
use Rattle.std.proofs.lemmas.List.{length-map}
use Rattle.gp_grammar.specs.Limits.{commands_shape, passed_limit, shape_of_count}
use Rattle.gp_syntax.specs.Measures.{earlier}
use Rattle.gp_syntax.specs.Refusals.{limit_of}
use Rattle.gp_syntax.specs.Views.{change_view, changes_view}
use Rattle.gp_syntax.proofs.LimitLemmas.{limit_of_commands, whole-limit}
use Rattle.gp_syntax.proofs.limits.changes_limit.Goals as goal

pub returns : goal.returns
returns c =
    let changes = c.args.changes.now in
    c.earlier.ensures
    ∙ ap (λ first. earlier first c.commands_limit-commands.result)
    (c.count_limit-count.ensures ∙ ap (λ count. option_map limit_of (passed_limit (shape_of_count count))) (sym (length-map changes change_view)))
    ∙ ap (λ second. earlier (option_map limit_of (passed_limit (shape_of_count (length (changes_view changes))))) second) c.commands_limit-commands.ensures
    ∙ sym (whole-limit (shape_of_count (length (changes_view changes))) (commands_shape (changes_view changes)))
