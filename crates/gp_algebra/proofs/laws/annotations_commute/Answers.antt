use Rattle.std.proofs.Common.{refl}
use Rattle.gp_algebra.specs.Reannotation.{database_reannotated}
use Rattle.gp_algebra.proofs.Erasure.{answer_reannotated, step_reannotated, wrote_reannotated, is_over_rows_reannotated, is_over_nodes_reannotated}
use Rattle.gp_algebra.proofs.laws.annotations_commute.Goals as goal

pub returns-clause-answers : goal.returns-clause-answers
returns-clause-answers g c kind other h keeps select db = answer_reannotated kind other h keeps select db (database_reannotated h db) (λ table. refl)

pub returns-clause-effects : goal.returns-clause-effects
returns-clause-effects g c kind other h keeps t k statement db table = step_reannotated kind other h keeps t k statement db (database_reannotated h db) (λ each. refl) table

pub returns-clause-written : goal.returns-clause-written
returns-clause-written g c kind other h keeps t k statement db = wrote_reannotated kind other h keeps t k statement db (database_reannotated h db) (λ table. refl)

pub returns-clause-rows : goal.returns-clause-rows
returns-clause-rows g c kind other h keeps most t k statement db = is_over_rows_reannotated kind other h keeps most t k statement db (database_reannotated h db) (λ table. refl)

pub returns-clause-nodes : goal.returns-clause-nodes
returns-clause-nodes g c kind other h keeps most t k statement db = is_over_nodes_reannotated kind other h keeps most t k statement db (database_reannotated h db) (λ table. refl)
