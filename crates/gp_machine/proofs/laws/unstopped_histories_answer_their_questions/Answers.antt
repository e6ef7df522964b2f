use Rattle.gp_base.proofs.Permutations.{permuted, unpermuted}
use Rattle.gp_machine.proofs.HeldPoints.{simulated}
use Rattle.gp_machine.proofs.QuestionLemmas.{annotated_alike, rows_alike}
use Rattle.gp_machine.proofs.laws.unstopped_histories_answer_their_questions.Goals as goal

pub returns-clause-elements : goal.returns-clause-elements
returns-clause-elements g c kind limits state unstopped spans are point asked query = permuted _ _ (simulated kind limits state unstopped spans (λ table. unpermuted _ _ (are table)) point asked query)

pub returns-clause-annotated : goal.returns-clause-annotated
returns-clause-annotated g c kind limits state unstopped spans are agree same point query = annotated_alike kind limits state unstopped spans (λ table. unpermuted _ _ (are table)) agree same point query

pub returns-clause-rows : goal.returns-clause-rows
returns-clause-rows g c limits state unstopped spans are point query = rows_alike limits state unstopped spans (λ table. unpermuted _ _ (are table)) point query
