use Rattle.gp_explain.proofs.MeaningLemmas.{merged_is_normal, spelled_explains}
use Rattle.gp_explain.proofs.laws.texts_explain_states.Goals as goal

pub returns-clause-normal : goal.returns-clause-normal
returns-clause-normal c entries prov point select fit fits known = merged_is_normal entries select fit fits point prov known

pub returns-clause-explained : goal.returns-clause-explained
returns-clause-explained c entries prov point select fit fits known text spelled = spelled_explains entries select fit fits point prov known text spelled
