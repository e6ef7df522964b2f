use Rattle.gp_base.proofs.Permutations.{permuted, unpermuted}
use Rattle.gp_algebra.proofs.PlainBags.{program_meaning_same, program_stop_same}
use Rattle.gp_algebra.proofs.laws.programs_respect_bags.Goals as goal

pub returns-clause-meaning : goal.returns-clause-meaning
returns-clause-meaning c program env other same = permuted _ _ (program_meaning_same env other program (λ scan among. unpermuted _ _ (same scan among)))

pub returns-clause-stop : goal.returns-clause-stop
returns-clause-stop c most_rows most_nodes program env other same = program_stop_same env other most_rows most_nodes program (λ scan among. unpermuted _ _ (same scan among))
