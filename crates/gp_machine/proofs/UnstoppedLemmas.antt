-- In no state that the history machine reaches a transaction that made a version passes a limit.
use Rattle.gp_machine.proofs.Prelude.{◌≡◌, ℕ, zero, suc, ◌<◌, ◌≤◌, List, Option, Some, None, refl, sym, ap, ◌∙◌, arith, ⊎_elim, option_or, cases_lt, Statement, Annotations, Environment, Log, committer_of, log_of, statement_at, statement_count, versions_in, Line, after, Parameters, run_stop, statement_stop, IsReached, seen_by, start_by, refreshed, run, run_before, State, start, IsUnstopped, none_parts}
use Rattle.gp_machine.proofs.CommitLemmas.{all_sound, refreshed_is, run_is_seen}
use Rattle.gp_machine.proofs.ReachedLemmas.{all_reached}

-- where a run does not stop, none of its first statements does
pub front_unstopped : {M : Type 0} (domain : Annotations M) (parameters : Parameters) (log : Log) (t k n : ℕ) (versions : Environment M) → k ≤ n → run_stop domain parameters log t n versions ≡ None → run_stop domain parameters log t k versions ≡ None
front_unstopped domain parameters log t k zero versions l none = let is : k ≡ zero = omega arith in ap (λ m. run_stop domain parameters log t m versions) is
front_unstopped domain parameters log t k (suc n) versions l none =
    ⊎_elim
    (λ below. front_unstopped domain parameters log t k n versions (omega arith)
    (none_parts (run_stop domain parameters log t n versions) (statement_stop domain parameters t (suc n) (log.statement t (suc n)) (run_before domain log t n versions)) none).0)
    (λ above. let is : k ≡ suc n = omega arith in ap (λ m. run_stop domain parameters log t m versions) is ∙ none)
    (cases_lt k (suc n))

module _ {M : Type 0} (domain : Annotations M) (parameters : Parameters) (state : State M) (reached : IsReached domain parameters state) where
  abbrev log : Log
  log = log_of state.entries

  module _ (u : ℕ) (within : u < versions_in state.entries) where
    abbrev t : ℕ
    t = committer_of (suc u) state.entries

    seen_is : (k : ℕ) → k ≤ statement_count t state.entries → run domain log t k state.committed ≡ (seen_by domain log t k state.committed).view
    seen_is k l = run_is_seen domain log state.committed state.written reached.history u within (all_sound domain log state.committed state.written reached.history u (omega arith)) k l

    before_is : (k : ℕ) → k < statement_count t state.entries → run_before domain log t k state.committed ≡ start_by domain log t k state.committed
    before_is k l =
        ap (refreshed (log.version t k) (log.version t (suc k)) state.committed) (seen_is k (omega arith))
        ∙ refreshed_is domain log state.committed state.written reached.history u within (all_sound domain log state.committed state.written reached.history u (omega arith)) k l

    statement_none : (k : ℕ) → k < statement_count t state.entries → (statement : Option Statement) → statement_at t (suc k) state.entries ≡ statement
        → statement_stop domain parameters t (suc k) statement (run_before domain log t k state.committed) ≡ None
    statement_none k l None e = refl
    statement_none k l (Some statement) e =
        let maker = reached.makers u within in
        let fits = reached.within t k statement maker.0 maker.1 l e in
        ap (statement_stop domain parameters t (suc k) (Some statement)) (before_is k l) ∙ rw (fits.rows, fits.nodes) refl

    run_none : (k : ℕ) → k ≤ statement_count t state.entries → run_stop domain parameters log t k state.committed ≡ None
    run_none zero l = refl
    run_none (suc k) l =
        ap (λ s. option_or s (statement_stop domain parameters t (suc k) (statement_at t (suc k) state.entries) (run_before domain log t k state.committed))) (run_none k (omega arith))
        ∙ statement_none k l (statement_at t (suc k) state.entries) refl

  pub reached_unstopped : IsUnstopped domain parameters state
  reached_unstopped = record {
    history = reached.history;
    views = λ u k within l.
        let maker = reached.makers u within in
        reached.views (committer_of (suc u) state.entries) k maker.0 maker.1 l ∙ sym (seen_is u within k l);
    runs = λ u within. run_none u within (statement_count (committer_of (suc u) state.entries) state.entries) (omega arith);
  }

pub all_unstopped : {M : Type 0} (domain : Annotations M) (parameters : Parameters) (lines : List Line) → IsUnstopped domain parameters (after domain parameters start lines)
all_unstopped domain parameters lines = reached_unstopped domain parameters (after domain parameters start lines) (all_reached domain parameters lines)
