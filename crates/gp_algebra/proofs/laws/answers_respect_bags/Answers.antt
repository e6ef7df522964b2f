use Rattle.gp_base.proofs.Permutations.{permuted, unpermuted}
use Rattle.gp_algebra.proofs.StepBags.{answer_same}
use Rattle.gp_algebra.proofs.laws.answers_respect_bags.Goals as goal

pub returns : goal.returns
returns g c = record { answers = λ kind select db other same. permuted _ _ (answer_same kind select db other (λ table. unpermuted _ _ (same table))) }
