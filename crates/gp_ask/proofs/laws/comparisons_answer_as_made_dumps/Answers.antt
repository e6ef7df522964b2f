use Rattle.gp_ask.proofs.MadeAnswers.{answers-as-made, made-unmade}
use Rattle.gp_ask.proofs.laws.comparisons_answer_as_made_dumps.Goals as goal

pub returns : goal.returns
returns c = λ programs dump question is. answers-as-made programs dump (made-unmade c.agreement_is_having_the_same_rows.ensures.agrees dump) question is
