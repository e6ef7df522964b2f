use Rattle.gp_base.proofs.Permutations.{permuted, unpermuted}
use Rattle.gp_log.specs.Parameters.{parameters}
use Rattle.gp_machine.proofs.HeldPoints.{after_held, commit_held}
use Rattle.gp_machine.proofs.ReachedLemmas.{all_reached}
use Rattle.gp_machine.proofs.Simulation.{versions_held}
use Rattle.gp_machine.proofs.UnstoppedLemmas.{all_unstopped}
use Rattle.gp_machine.specs.Entries.{log_of}
use Rattle.gp_machine.specs.Event.{after}
use Rattle.gp_machine.specs.State.{start}
use Rattle.gp_history.proofs.laws.annotated_versions_are_the_committed_ones.Goals as goal

pub returns-clause-versions : goal.returns-clause-versions
returns-clause-versions g c domain lines spans are u within table =
    let state = after domain parameters start lines in
    permuted _ _ (versions_held domain (log_of state.entries) state.committed state.written (all_reached domain parameters lines).history spans (λ n. unpermuted _ _ (are n)) u within table)

pub returns-clause-runs : goal.returns-clause-runs
returns-clause-runs g c domain lines spans are t k u made within table =
    permuted _ _ (after_held domain parameters (after domain parameters start lines) (all_unstopped domain parameters lines) spans (λ n. unpermuted _ _ (are n)) t k u made within table)

pub returns-clause-commits : goal.returns-clause-commits
returns-clause-commits g c domain lines spans are t u made table =
    permuted _ _ (commit_held domain parameters (after domain parameters start lines) (all_unstopped domain parameters lines) spans (λ n. unpermuted _ _ (are n)) t u made table)
