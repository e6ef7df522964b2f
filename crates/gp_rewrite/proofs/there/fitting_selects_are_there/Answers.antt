use Rattle.gp_rewrite.proofs.ThereLemmas.{selects_there}
use Rattle.gp_rewrite.proofs.there.fitting_selects_are_there.Goals as goal

pub returns : goal.returns
returns c = selects_there
