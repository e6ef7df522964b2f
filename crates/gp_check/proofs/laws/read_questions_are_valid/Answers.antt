use Rattle.gp_check.proofs.ValidLemmas.{question-derived, question-read}
use Rattle.gp_check.proofs.laws.read_questions_are_valid.Goals as goal

pub returns-clause-derived : goal.returns-clause-derived
returns-clause-derived c = question-derived

pub returns-clause-read : goal.returns-clause-read
returns-clause-read c = question-read
