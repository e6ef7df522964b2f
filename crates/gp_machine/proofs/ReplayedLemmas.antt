-- Where no commit of a log stops that is made again, the state that they lead to is a history in which none stops.
use Rattle.gp_machine.proofs.Prelude.{◌≡◌, ℕ, zero, suc, ◌<◌, ◌≤◌, List, length, None, refl, sym, ap, ◌∙◌, subst, arith, ⊎_elim, cases_lt, Table, Annotations, Entry, Log, log_of, versions_in, Parameters, run_stop, Replay, replay_stop, replayed, version_stop, CommitsInOrder, IsUnstopped, none_parts}
use Rattle.gp_machine.proofs.ReplayLemmas.{committed_stays, history_made, same_log, unstopped}
use Rattle.gp_machine.proofs.RunLemmas.{stop_agree}
use Rattle.gp_machine.specs.Replayed.{replayed_state}

module _ {M : Type 0} (domain : Annotations M) (parameters : Parameters) (log : Log) (tables : ℕ) where
  abbrev made : ℕ → Replay M
  made u = replayed domain log tables u

  -- versions that were made stay
  all_stay : (u n v : ℕ) → u ≤ n → v ≤ u → (made n).committed v ≡ (made u).committed v
  all_stay u zero v l m = let is : u ≡ zero = omega arith in ap (λ w. (made w).committed v) (sym is)
  all_stay u (suc n) v l m =
      ⊎_elim
      (λ below. committed_stays domain log tables n v (omega arith) ∙ all_stay u n v (omega arith) m)
      (λ above. let is : u ≡ suc n = omega arith in ap (λ w. (made w).committed v) (sym is))
      (cases_lt u (suc n))

  -- no version stops that was made
  each_none : (n u : ℕ) → u < n → replay_stop domain log parameters tables n ≡ None → version_stop domain log parameters tables u ≡ None
  each_none zero u l none = absurd (omega arith)
  each_none (suc n) u l none =
      let both = none_parts (replay_stop domain log parameters tables n) (version_stop domain log parameters tables n) none in
      ⊎_elim
      (λ below. each_none n u below both.0)
      (λ above. let is : u ≡ n = omega arith in subst (λ w. version_stop domain log parameters tables w ≡ None) (sym is) both.1)
      (cases_lt u n)

  -- nor does the run of its transaction over all of them
  pub made_unstopped : CommitsInOrder log → (n u : ℕ) → u < n → u < log.versions → replay_stop domain log parameters tables n ≡ None
      → run_stop domain parameters log (log.committer (suc u)) (log.statement_count (log.committer (suc u))) (made n).committed ≡ None
  made_unstopped order n u l within none =
      let t : ℕ = log.committer (suc u) in
      let k : ℕ = log.statement_count t in
      stop_agree domain log log t k (made u).committed (made n).committed (same_log log t k) (λ j m. all_stay u n (log.version t j) (omega arith) (order.order u j within m)) parameters k (omega arith)
      ∙ (unstopped (suc u) _ _ _ (each_none n u l none)).runs

pub replayed_unstopped : {M : Type 0} (domain : Annotations M) (parameters : Parameters) (catalogue : List Table) (entries : List Entry) → CommitsInOrder (log_of entries)
    → replay_stop domain (log_of entries) parameters (length catalogue) (versions_in entries) ≡ None → IsUnstopped domain parameters (replayed_state domain catalogue entries)
replayed_unstopped domain parameters catalogue entries order none = record {
  history = history_made domain (log_of entries) (length catalogue) parameters order (versions_in entries) (omega arith) none;
  views = λ u k within has. refl;
  runs = λ u within. made_unstopped domain parameters (log_of entries) (length catalogue) order (versions_in entries) u within within none;
}
