-- What statements do over the row versions of two logs, by what each shows.
use Rattle.gp_serial.proofs.Prelude.{Global, Vec, ◌≡◌, ◌<◌, ◌≤◌, ◌+◌, ℕ, zero, suc, Bool, true, false, List, [], ◌∷◌, length, drop, get_or, Option, Some, None, Ok, Err, refl, sym, ap, ◌∙◌, subst, arith, add-one, ⊎_elim, ◌&&◌, ◌||◌, not, list_all, option_map, option_map_or, cases_lt, drop_more, Cell, unannotated, row_cmp, sorted_by, some_none, Statement, parameters, Entry, log_of, statement_at, statement_count, is_over_answer, as_of, run_stop, stop_refusal, spans_of, Versions, Span}
use Rattle.std.proofs.lemmas.List.{get_or_default}
use Rattle.gp_base.proofs.SmallLemmas.{and_none}
use Rattle.gp_machine.specs.SerialRuns as m
use Rattle.gp_reenact.specs.Travel.{no_table}
use Rattle.gp_serial.specs.declared.error.SerialStop.{SerialStop}
use Rattle.gp_serial.specs.declared.error.SerialStop.TheVariants.{NoMemory, Refused}
use Rattle.gp_serial.specs.Comparing.{ComparesAll, ComparesStatements, ComparesTransaction, before_of, before_other, does_same, next_does_same, passes_first}
use Rattle.gp_serial.specs.Running.{IsShown, IsTold, IsToldOf, are_equal, is_same}
use Rattle.gp_serial.proofs.RunningLemmas.{is_there, stops_later}

-- ---- tests of the first numbers

-- where one fails, not all pass
pub fails_first : (test : ℕ → Bool) (n k : ℕ) → k < n → test k ≡ false → passes_first test n ≡ false
fails_first test zero k l fails = absurd (omega (arith, l))
fails_first test (suc n) k l fails =
    ⊎_elim
    (λ below. ap (λ b. b && test n) (fails_first test n k below fails))
    (λ above. ap (λ b. passes_first test n && b) (ap test (same above) ∙ fails) ∙ and_none (passes_first test n))
    (cases_lt k n)
  where
    same : n ≤ k → n ≡ k
    same above = omega (arith, above, l)

-- ---- one statement

module _ (entries : List Entry) (spans : ℕ → List Span) (others : List Entry) (made : ℕ → List Span) (t : ℕ) where
  both : (before : ℕ) (statement : Statement) (rows found : Option (Vec (List Cell) Global)) → IsTold t (suc before) statement (before_of entries spans others made t before) rows
      → IsTold t (suc before) statement (before_other entries spans others made t before) found → is_same rows found ≡ does_same entries spans others made t before statement
  both before statement (Some rows) (Some found) (few, is) (few', is') =
      (λ i. are_equal (is i) (is' i))
      ∙ sym (λ i. not (few i || few' i)
      && are_equal (sorted_by row_cmp (m.shown t (suc before) statement (before_of entries spans others made t before))) (sorted_by row_cmp (m.shown t (suc before) statement (before_other entries spans others made t before))))
  both before statement (Some rows) None (few, is) over =
      sym (λ i. not (few i || over i)
      && are_equal (sorted_by row_cmp (m.shown t (suc before) statement (before_of entries spans others made t before))) (sorted_by row_cmp (m.shown t (suc before) statement (before_other entries spans others made t before))))
  both before statement None found over is =
      sym (λ i. not (over i || is_over_answer unannotated parameters.answer statement (before_other entries spans others made t before))
      && are_equal (sorted_by row_cmp (m.shown t (suc before) statement (before_of entries spans others made t before))) (sorted_by row_cmp (m.shown t (suc before) statement (before_other entries spans others made t before))))

  pub told_same : (before : ℕ) (rows found : Option (Vec (List Cell) Global)) → suc before ≤ statement_count t entries → statement_at t (suc before) others ≡ statement_at t (suc before) entries
      → IsShown entries spans t (before + 1) (Ok rows) → IsShown others made t (before + 1) (Ok found) → is_same rows found ≡ next_does_same entries spans others made t before
  told_same before rows found most same own other = by (statement_at t (suc before) entries) refl
    where
      own_told : IsToldOf (statement_at t (suc before) entries) t (suc before) (before_of entries spans others made t before) rows
      own_told = (subst (λ k. IsShown entries spans t k (Ok rows)) (add-one before) own).1

      other_told : IsToldOf (statement_at t (suc before) others) t (suc before) (before_other entries spans others made t before) found
      other_told = (subst (λ k. IsShown others made t k (Ok found)) (add-one before) other).1

      by : (statement : Option Statement) → statement_at t (suc before) entries ≡ statement → is_same rows found ≡ option_map_or (does_same entries spans others made t before) statement true
      by None is = absurd (is_there entries t before most is)
      by (Some statement) is =
          both before statement rows found (subst (λ s. IsToldOf s t (suc before) (before_of entries spans others made t before) rows) is own_told)
          (subst (λ s. IsToldOf s t (suc before) (before_other entries spans others made t before) found) (same ∙ is) other_told)

-- ---- stops

-- a statement of a run that does not stop is not refused
pub no_refusal : (entries : List Entry) (spans : ℕ → List Span) (t n before : ℕ) (stop : SerialStop) → before < n → run_stop unannotated parameters (log_of entries) t n (as_of unannotated spans) ≡ None
    → IsShown entries spans t (before + 1) (Err stop) → stop ≡ NoMemory
no_refusal entries spans t n before NoMemory l none is = refl
no_refusal entries spans t n before (Refused refusal) l none is =
    absurd (some_none refusal (sym (subst (λ k. IsShown entries spans t k (Err (Refused refusal))) (add-one before) is)
    ∙ ap (option_map stop_refusal) (stops_later entries t n (suc before) (as_of unannotated spans) (omega (arith, l)) none)))

pub stop_compares : (entries : List Entry) (spans : ℕ → List Span) (others : List Entry) (made : ℕ → List Span) (t : ℕ) (stop : SerialStop) → stop ≡ NoMemory
    → ComparesTransaction entries spans others made t (Err stop)
stop_compares entries spans others made t stop is = subst (λ stop. ComparesTransaction entries spans others made t (Err stop)) (sym is) tt

-- ---- lists

pub all_agree : (p q : ℕ → Bool) (list : List ℕ) → ((u : ℕ) → u < length list → p (get_or list u 0) ≡ q (get_or list u 0)) → list_all p list ≡ list_all q list
all_agree p q [] same = refl
all_agree p q (t ∷ list) same = λ i. same 0 (omega arith) i && all_agree p q list (λ u l. same (suc u) (omega (arith, l))) i

-- the first of those that remain
pub all_here : (p : ℕ → Bool) (list : List ℕ) (i : ℕ) → i < length list → list_all p (drop i list) ≡ (p (get_or list i 0) && list_all p (drop (i + 1) list))
all_here p list i within = ap (list_all p) (drop_more list i 0 within)

-- what stops the comparison of one stops that of all
pub stop_compares_all : (entries : List Entry) (versions : List Versions) (others : List Entry) (made : List Versions) (t : ℕ) (order : List ℕ) (stop : SerialStop)
    → ComparesTransaction entries (spans_of versions) others (spans_of made) t (Err stop) → ComparesStatements entries versions others made order (Err stop)
stop_compares_all entries versions others made t order NoMemory e = tt
stop_compares_all entries versions others made t order (Refused refusal) e = e

pub stop_compares_ends : (entries : List Entry) (versions : List Versions) (others : List Entry) (made : List Versions) (order : List ℕ) (stop : SerialStop)
    → ComparesStatements entries versions others made order (Err stop) → ComparesAll entries versions others made order (Err stop)
stop_compares_ends entries versions others made order NoMemory e = tt
stop_compares_ends entries versions others made order (Refused refusal) e = e

-- the row versions of a table at its place
pub spans_there : (versions : List Versions) (place : ℕ) (own : Versions) → place < length versions → own ≡ get_or versions place own → own.spans ≡ spans_of versions place
spans_there versions place own within is = ap (λ (table : Versions). table.spans) (is ∙ get_or_default versions place own no_table within)
