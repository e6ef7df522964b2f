-- A transaction that runs again: over versions that agree it does the same, and over those of a history it reads and writes what it did.
use Rattle.gp_machine.proofs.Prelude.{◌≡◌, ◌≢◌, ℕ, zero, suc, ◌<◌, ◌≤◌, Bool, true, false, cond, List, refl, sym, ap, ◌∙◌, arith, ◌⊎◌, inl, inr, ⊎_elim, ◌==◌, option_or, cases_lt, Written, Annotations, Environment, Identity, identity_transaction, pairs, with_bases, is_written, merged, Log, IsHistory, Parameters, run_stop, statement_stop, holds_identity, publish, Seen, wrote_by, seen_by, start_by, run_written, refreshed, run, run_before, stepped, AllByRecursion}
use Rattle.gp_machine.proofs.BaseLemmas.{found}
use Rattle.gp_machine.proofs.CommitLemmas.{Clean, IsMadeBy, all_sound, bases_within, clean, holds_since, view_kept}
use Rattle.gp_machine.proofs.Distinct.{each_both}
use Rattle.gp_machine.proofs.FoundLemmas.{bases_read, holds_own}
use Rattle.gp_machine.proofs.LogLemmas.{SameFor, SameSeen}
use Rattle.gp_machine.proofs.PublishLemmas.{publish_is}
use Rattle.gp_machine.proofs.ViewLemmas.{holds_each}

-- ---- over versions that agree

module _ {M : Type 0} (domain : Annotations M) (log other : Log) (t n : ℕ) (versions others : Environment M) (same : SameFor log other t n) (agree : SameSeen domain log t n versions others) where
  abbrev read : (k : ℕ) → k ≤ n → others (other.version t k) ≡ versions (log.version t k)
  read k l = ap others (same.version k l) ∙ agree k l

  -- what the next statement reads, given what the run read before
  next_agree : (k : ℕ) → suc k ≤ n → run domain other t k others ≡ run domain log t k versions → run_before domain other t k others ≡ run_before domain log t k versions
  next_agree k l before = λ i.
      cond (same.version (suc k) l i == same.version k (omega arith) i) (before i) (publish (read k (omega arith) i) (before i) (read (suc k) l i))

  pub run_agree : (k : ℕ) → k ≤ n → run domain other t k others ≡ run domain log t k versions
  run_agree zero l = read zero (omega arith)
  run_agree (suc k) l = λ i. stepped domain t (suc k) (same.statement k l i) (next_agree k l (run_agree k (omega arith)) i)

  pub before_agree : (k : ℕ) → suc k ≤ n → run_before domain other t k others ≡ run_before domain log t k versions
  before_agree k l = next_agree k l (run_agree k (omega arith))

  pub written_agree : (k : ℕ) → k ≤ n → run_written domain other t k others ≡ run_written domain log t k versions
  written_agree zero l = refl
  written_agree (suc k) l = λ i. with_bases (same.version (suc k) l i) (written_agree k (omega arith) i) (wrote_by domain t (suc k) (same.statement k l i) (before_agree k l i))

  pub stop_agree : (parameters : Parameters) (k : ℕ) → k ≤ n → run_stop domain parameters other t k others ≡ run_stop domain parameters log t k versions
  stop_agree parameters zero l = refl
  stop_agree parameters (suc k) l = λ i. option_or (stop_agree parameters k (omega arith) i) (statement_stop domain parameters t (suc k) (same.statement k l i) (before_agree k l i))

-- ---- over a history

module _ {M : Type 0} (domain : Annotations M) (log : Log) (committed : Environment M) (written : ℕ → List Written) (history : IsHistory domain log committed written) where
  abbrev seen : ℕ → ℕ → Seen M
  seen t k = seen_by domain log t k committed

  -- a row that a commit wrote is its transaction's own, or is in the version before
  written_there : (u table : ℕ) (id : Identity) → u < log.versions → is_written table id (written (suc u)) ≡ true
      → (identity_transaction id ≡ log.committer (suc u)) ⊎ (holds_identity id (committed u table) ≡ true)
  written_there u table id inside e =
      let t : ℕ = log.committer (suc u) in
      let n : ℕ = log.statement_count t in
      found (λ table id. (identity_transaction id ≡ t) ⊎ (holds_identity id (committed u table) ≡ true)) (seen t n).written table id
      (each_both _ _ _ (λ based r first. ⊎_elim inl (λ held.
      let o : log.version t r.number ≤ u = history.order u r.number inside r.within in
      inr (holds_since domain log committed written history u based.base based.pair.table based.pair.identity (omega (arith, r.base)) (omega arith) first ∙ held)) r.read) (seen t n).written
      (bases_read domain log committed written history t n (clean domain log committed written history u inside (all_sound domain log committed written history u (omega arith)) n (omega arith)))
      (history.first u inside)) (ap (is_written table id) (sym (history.wrote u inside)) ∙ e)

  -- a row of an earlier version and of the next one is in this one: no commit makes a row again
  there_before : (u b table : ℕ) (id : Identity) → u < log.versions → b ≤ u → holds_identity id (committed b table) ≡ true → holds_identity id (committed (suc u) table) ≡ true → holds_identity id (committed u table) ≡ true
  there_before u b table id inside l old new = by (is_written table id (written (suc u))) refl
    where
      again : identity_transaction id ≡ log.committer (suc u) → ⊥
      again own =
          let made = holds_own (IsMadeBy log b) id (committed b table) (all_sound domain log committed written history b (omega arith) b (omega arith) table).makers old in
          let same : made.0 ≡ u = history.once made.0 u (omega (arith, made.1)) inside (sym made.2 ∙ own) in
          omega (arith, made.1, same)

      by : (w : Bool) → is_written table id (written (suc u)) ≡ w → holds_identity id (committed u table) ≡ true
      by true e = ⊎_elim (λ own. absurd (again own)) (λ held. held) (written_there u table id inside e)
      by false e =
          sym (holds_since domain log committed written history (suc u) u table id (omega arith) inside (λ w a b. let is : w ≡ suc u = omega arith in ap (λ v. is_written table id (written v)) is ∙ e))
          ∙ new

  pub there : (b v w table : ℕ) (id : Identity) → b ≤ v → v ≤ w → w ≤ log.versions → holds_identity id (committed b table) ≡ true → holds_identity id (committed w table) ≡ true → holds_identity id (committed v table) ≡ true
  there b v zero table id l m inside old new = let is : v ≡ zero = omega arith in ap (λ x. holds_identity id (committed x table)) is ∙ new
  there b v (suc w) table id l m inside old new =
      ⊎_elim
      (λ below. there b v w table id l (omega arith) (omega arith) old (there_before w b table id inside (omega arith) old new))
      (λ above. let is : v ≡ suc w = omega arith in ap (λ x. holds_identity id (committed x table)) is ∙ new)
      (cases_lt v (suc w))

  -- what a transaction reads before each statement, and what it wrote, if it reads versions of the history that do not fall and made none of their rows
  module _ (t n : ℕ) (fit : Clean domain log committed written history t n) (inside : (k : ℕ) → k ≤ n → log.version t k ≤ log.versions) (rising : (k : ℕ) → k < n → log.version t k ≤ log.version t (suc k)) where
    shorter : (k : ℕ) → k ≤ n → Clean domain log committed written history t k
    shorter k l = record { different = λ j m. fit.different j (omega arith); unmarked = λ j m. fit.unmarked j (omega arith); others = λ j m. fit.others j (omega arith) }

    -- a row that it wrote and that the next version has is in the one that it read
    known : (k : ℕ) → suc k ≤ n → (table : ℕ)
        → AllByRecursion (λ row. is_written table row.identity (pairs (seen t k).written) ≡ true → holds_identity row.identity (committed (log.version t k) table) ≡ true) (committed (log.version t (suc k)) table)
    known k l table =
        each_both _ _ _ (λ row held other e. found (λ table id. identity_transaction id ≢ t → holds_identity id (committed (log.version t (suc k)) table) ≡ true → holds_identity id (committed (log.version t k) table) ≡ true) (seen t k).written table row.identity
        (each_both _ _ _ (λ based r within other held. ⊎_elim (λ own. absurd (other own))
        (λ old. there based.base (log.version t k) (log.version t (suc k)) based.pair.table based.pair.identity within.1 (rising k l) (inside (suc k) l) old held) r.read) (seen t k).written
        (bases_read domain log committed written history t k (shorter k (omega arith))) (bases_within domain log committed written history t k (λ j m. rising j (omega arith)))) e other held)
        (committed (log.version t (suc k)) table) (holds_each (committed (log.version t (suc k)) table)) (fit.others (suc k) l table)

    refreshed_is : (k : ℕ) → suc k ≤ n → refreshed (log.version t k) (log.version t (suc k)) committed (seen t k).view ≡ start_by domain log t k committed
    refreshed_is k l = elim (log.version t (suc k) == log.version t k) as (λ b. cond b (seen t k).view (publish (committed (log.version t k)) (seen t k).view (committed (log.version t (suc k)))) ≡ cond b (seen t k).view (merged (committed (log.version t (suc k))) (seen t k).view (pairs (seen t k).written))) [
      | true ↦ refl
      | false ↦ λ i table. publish_is (λ id. is_written table id (pairs (seen t k).written)) (committed (log.version t k) table) ((seen t k).view table) (committed (log.version t (suc k)) table)
          (view_kept domain log committed written history t k (shorter k (omega arith)) table) (known k l table) i
    ]

    pub run_is : (k : ℕ) → k ≤ n → run domain log t k committed ≡ (seen t k).view
    run_is zero l = refl
    run_is (suc k) l = ap (stepped domain t (suc k) (log.statement t (suc k))) (ap (refreshed (log.version t k) (log.version t (suc k)) committed) (run_is k (omega arith)) ∙ refreshed_is k l)

    pub before_is : (k : ℕ) → suc k ≤ n → run_before domain log t k committed ≡ start_by domain log t k committed
    before_is k l = ap (refreshed (log.version t k) (log.version t (suc k)) committed) (run_is k (omega arith)) ∙ refreshed_is k l

    pub written_is : (k : ℕ) → k ≤ n → run_written domain log t k committed ≡ (seen t k).written
    written_is zero l = refl
    written_is (suc k) l = λ i. with_bases (log.version t (suc k)) (written_is k (omega arith) i) (wrote_by domain t (suc k) (log.statement t (suc k)) (before_is k l i))
