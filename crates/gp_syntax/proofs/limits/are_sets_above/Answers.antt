use Rattle.std.proofs.Common.{sym, ◌∙◌}
use Rattle.gp_syntax.proofs.LimitLemmas.{sets-above}
use Rattle.gp_syntax.proofs.limits.are_sets_above.Goals as goal

pub returns : goal.returns
returns c = c.any_set_above.ensures ∙ sym (sets-above c.args.measure c.args.sets.now)
