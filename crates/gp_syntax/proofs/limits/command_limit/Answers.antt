use Rattle.std.proofs.Common.{List, ◌++◌, map, sym, ap, ◌∙◌}
use Rattle.std.specs.Option.{option_map}
use Rattle.gp_grammar.specs.Limits.{command_shape, passed_limit, terms_of_condition}
use Rattle.gp_syntax.specs.declared.command.SetTerm.{SetTerm}
use Rattle.gp_syntax.specs.declared.command.Command.{Command}
use Rattle.gp_syntax.specs.Measures.{set_term_of, terms_limit}
use Rattle.gp_syntax.specs.Refusals.{limit_of}
use Rattle.gp_syntax.specs.Views.{command_view, condition_view, set_view}
use Rattle.gp_syntax.proofs.limits.command_limit.Goals as goal

pub returns-in-Update : goal.returns-in-Update
returns-in-Update c =
    c.update_limit.ensures
    ∙ ap (λ (sets : List SetTerm). terms_limit (map set_term_of (map set_view sets) ++ terms_of_condition (condition_view c.in-Update.cond))) c.as_slice-in-Update.ensures
    ∙ ap (λ (command : Command). option_map limit_of (passed_limit (command_shape (command_view command)))) (sym c.in-Update.is)
