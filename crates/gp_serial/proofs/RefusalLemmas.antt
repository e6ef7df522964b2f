-- Whether transactions run whole, by what their last statements show.
use Rattle.gp_serial.proofs.Prelude.{◌≡◌, ◌<◌, ◌≤◌, ◌+◌, ℕ, zero, suc, List, Option, Some, None, Err, sym, ap, ◌∙◌, subst, arith, add-one, ⊎_elim, option_map, option_or, cases_lt, Refusal, unannotated, parameters, Entry, committer_of, log_of, statement_count, as_of, run_stop, stop_refusal, Span}
use Rattle.gp_serial.specs.declared.error.SerialStop.{SerialStop}
use Rattle.gp_serial.specs.declared.error.SerialStop.TheVariants.{NoMemory, Refused}
use Rattle.gp_serial.specs.Comparing.{ChecksRun, ChecksRuns}
use Rattle.gp_serial.specs.Running.{IsShown}
use Rattle.gp_serial.specs.Serializing.{runs_refusal}

module _ (entries : List Entry) (spans : ℕ → List Span) where
  -- ---- one transaction

  pub is_refused : (t k : ℕ) (stop : SerialStop) → k ≡ statement_count t entries → 0 < k → IsShown entries spans t k (Err stop) → ChecksRun entries spans t (Err stop)
  is_refused t k NoMemory is first shown = tt
  is_refused t zero (Refused refusal) is first shown = absurd (omega (arith, first))
  is_refused t (suc k) (Refused refusal) is first shown =
      subst (λ n. option_map stop_refusal (run_stop unannotated parameters (log_of entries) t n (as_of unannotated spans)) ≡ Some refusal) is shown

  -- ---- the first transactions

  abbrev stop_of : ℕ → Option Refusal
  stop_of t = option_map stop_refusal (run_stop unannotated parameters (log_of entries) t (statement_count t entries) (as_of unannotated spans))

  pub none_next : (before t : ℕ) → t ≡ committer_of (before + 1) entries → runs_refusal parameters entries spans before ≡ None
      → run_stop unannotated parameters (log_of entries) t (statement_count t entries) (as_of unannotated spans) ≡ None → runs_refusal parameters entries spans (before + 1) ≡ None
  none_next before t is none runs =
      ap (runs_refusal parameters entries spans) (add-one before)
      ∙ (λ i. option_or (none i) (stop_of ((sym (is ∙ ap (λ v. committer_of v entries) (add-one before))) i)))
      ∙ ap (option_map stop_refusal) runs

  stays : (refusal : Refusal) (n k : ℕ) → k ≤ n → runs_refusal parameters entries spans k ≡ Some refusal → runs_refusal parameters entries spans n ≡ Some refusal
  stays refusal zero k l is = ap (runs_refusal parameters entries spans) (zero_is k l) ∙ is
    where
      zero_is : (k : ℕ) → k ≤ 0 → 0 ≡ k
      zero_is k l = omega (arith, l)
  stays refusal (suc n) k l is =
      ⊎_elim
      (λ below. ap (λ found. option_or found (stop_of (committer_of (suc n) entries))) (stays refusal n k (omega (arith, below)) is))
      (λ above. ap (runs_refusal parameters entries spans) (same above) ∙ is)
      (cases_lt k (suc n))
    where
      same : suc n ≤ k → suc n ≡ k
      same above = omega (arith, above, l)

  pub refused_here : (n before t : ℕ) (stop : SerialStop) → before < n → t ≡ committer_of (before + 1) entries → runs_refusal parameters entries spans before ≡ None → ChecksRun entries spans t (Err stop)
      → ChecksRuns entries spans n (Err stop)
  refused_here n before t NoMemory l is none refused = tt
  refused_here n before t (Refused refusal) l is none refused =
      stays refusal n (suc before) (omega (arith, l))
      ((λ i. option_or (none i) (stop_of ((sym (is ∙ ap (λ v. committer_of v entries) (add-one before))) i))) ∙ refused)
