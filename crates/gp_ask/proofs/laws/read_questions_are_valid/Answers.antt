use Rattle.gp_ask.proofs.ReadLemmas.{read-valid}
use Rattle.gp_ask.proofs.laws.read_questions_are_valid.Goals as goal

pub returns : goal.returns
returns c = λ text question is. read-valid text question is
