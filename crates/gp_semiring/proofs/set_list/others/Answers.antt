use Rattle.std.proofs.Common.{sym, ◌∙◌, ap, Bool, List}
use Rattle.std.specs.List.{list_any}
use Rattle.gp_base.specs.declared.token.Token.{Token}
use Rattle.gp_base.specs.Tokens.{token_cmp}
use Rattle.gp_semiring.specs.Witnesses.{is_within}
use Rattle.gp_semiring.proofs.SetLemmas.{all_kept}
use Rattle.gp_semiring.proofs.set_list.others.Goals as goal

pub returns-then-not-has_beyond : goal.returns-then-not-has_beyond
returns-then-not-has_beyond c =
    let own : List Token → Bool = λ other. is_within token_cmp c.args.set.now other in
    sym (all_kept own c.args.sets.items (sym (ap (list_any own) c.as_slice.ensures.value) ∙ sym c.has_beyond.ensures ∙ c.if-not-has_beyond.true))
