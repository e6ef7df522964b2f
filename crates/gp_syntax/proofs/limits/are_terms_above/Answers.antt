use Rattle.std.proofs.Common.{sym, ◌∙◌}
use Rattle.gp_syntax.proofs.LimitLemmas.{terms-above}
use Rattle.gp_syntax.proofs.limits.are_terms_above.Goals as goal

pub returns : goal.returns
returns c = c.any_term_above.ensures ∙ sym (terms-above c.args.measure c.args.terms.now)
