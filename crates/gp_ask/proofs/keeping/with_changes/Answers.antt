use Rattle.std.proofs.Common.{List, ap, subst, sym, ◌∙◌}
use Rattle.gp_grammar.specs.Syntax as y
use Rattle.gp_syntax.specs.Views.{changes_view}
use Rattle.gp_ask.specs.Keeping.{HasChanges}
use Rattle.gp_ask.proofs.keeping.with_changes.Goals as goal

pub returns-then-are_same_changes : goal.returns-then-are_same_changes
returns-then-are_same_changes c = λ dump has.
    subst (λ (changes : List y.LogChange). HasChanges dump changes c.args.own) (ap changes_view (sym c.as_slice.ensures) ∙ c.are_same_changes.ensures c.if-are_same_changes.true) has
