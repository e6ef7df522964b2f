use Rattle.gp_base.proofs.Permutations.{permuted, unpermuted}
use Rattle.gp_algebra.proofs.StepBags.{step_same, wrote_same, is_over_rows_same, is_over_nodes_same}
use Rattle.gp_algebra.proofs.laws.statements_respect_bags.Goals as goal

pub returns-clause-effects : goal.returns-clause-effects
returns-clause-effects g c kind t k statement db other same table = permuted _ _ (step_same kind t k statement db other (λ each. unpermuted _ _ (same each)) table)

pub returns-clause-written : goal.returns-clause-written
returns-clause-written g c kind t k statement db other same = permuted _ _ (wrote_same kind t k statement db other (λ table. unpermuted _ _ (same table)))

pub returns-clause-rows : goal.returns-clause-rows
returns-clause-rows g c kind most t k statement db other same = is_over_rows_same kind most t k statement db other (λ table. unpermuted _ _ (same table))

pub returns-clause-nodes : goal.returns-clause-nodes
returns-clause-nodes g c kind most t k statement db other same = is_over_nodes_same kind most t k statement db other (λ table. unpermuted _ _ (same table))
