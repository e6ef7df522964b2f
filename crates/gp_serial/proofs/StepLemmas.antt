-- The steps of a cycle, one after another.
use Rattle.gp_serial.proofs.Prelude.{◌≡◌, ◌<◌, ◌≤◌, ◌+◌, ℕ, suc, Bool, true, false, cond, List, [], ◌∷◌, ◌++◌, length, map, drop, get_or, None, refl, sym, ap, ◌∙◌, arith, add-one, nat_lt, slice_get, ◌==◌, eqb-true, nat_tests, append_assoc, drop_more, Table, eq_itself, Entry, read_after, read_before, reasons, wrote_before, RowChange}
use Rattle.std.proofs.Common.{true≢false}
use Rattle.std.proofs.lemmas.List.{drop_all, map-append}
use Rattle.gp_serial.specs.declared.serializing.Step as code
use Rattle.gp_serial.specs.SerialViews.{cycle_answer, next_in, step_view}
use Rattle.gp_serial.specs.Serializing.{InCycle, Undecided, step_of, steps_of, steps_to}

module _ (tables : List Table) (entries : List Entry) (changes : List RowChange) where
  -- no transaction comes before itself
  pub no_reason : (a b : ℕ) → a ≡ b → slice_get (reasons tables entries changes a b) 0 ≡ None
  no_reason a b same =
      ap (λ e. slice_get (cond e [] (read_before tables entries changes a b ++ (read_after tables entries changes a b ++ wrote_before tables entries changes a b))) 0) (ap (λ u. a == u) (sym same) ∙ eq_itself a)

  pub steps_start : (cycle : List ℕ) → steps_to tables entries changes (get_or cycle 0 0) cycle ≡ steps_of tables entries changes cycle
  steps_start [] = refl
  steps_start (first ∷ others) = refl

  pub steps_next : (first : ℕ) (cycle : List ℕ) (place : ℕ) → first ≡ get_or cycle 0 0 → place < length cycle
      → steps_to tables entries changes first (drop place cycle) ≡ step_of tables entries changes (get_or cycle place 0) (next_in cycle place) ∷ steps_to tables entries changes first (drop (place + 1) cycle)
  steps_next first cycle place is within = ap (steps_to tables entries changes first) (drop_more cycle place 0 within) ∙ by (nat_lt (suc place) (length cycle)) refl
    where
      inside : nat_lt (suc place) (length cycle) ≡ true → place + 1 < length cycle
      inside e = grind (arith, nat_tests)

      outside : nat_lt (suc place) (length cycle) ≡ false → length cycle ≤ place + 1
      outside e = grind (arith, nat_tests)

      by : (more : Bool) → nat_lt (suc place) (length cycle) ≡ more
          → steps_to tables entries changes first (get_or cycle place 0 ∷ drop (place + 1) cycle)
          ≡ step_of tables entries changes (get_or cycle place 0) (cond more (get_or cycle (suc place) 0) (get_or cycle 0 0)) ∷ steps_to tables entries changes first (drop (place + 1) cycle)
      by true e =
          let behind = drop_more cycle (place + 1) 0 (inside e) in
          ap (λ rest. steps_to tables entries changes first (get_or cycle place 0 ∷ rest)) behind
          ∙ (λ i. step_of tables entries changes (get_or cycle place 0) (get_or cycle (add-one place i) 0) ∷ steps_to tables entries changes first (sym behind i))
      by false e =
          let none = drop_all (place + 1) cycle (outside e) in
          ap (λ rest. steps_to tables entries changes first (get_or cycle place 0 ∷ rest)) none
          ∙ (λ i. step_of tables entries changes (get_or cycle place 0) (is i) ∷ steps_to tables entries changes first (sym none i))

  -- the steps so far, and the others
  pub steps_more : (first : ℕ) (cycle : List ℕ) (place : ℕ) (steps : List code.Step) (step : code.Step) → first ≡ get_or cycle 0 0 → place < length cycle
      → step_view step ≡ step_of tables entries changes (get_or cycle place 0) (next_in cycle place)
      → map step_view (steps ++ step ∷ []) ++ steps_to tables entries changes first (drop (place + 1) cycle) ≡ map step_view steps ++ steps_to tables entries changes first (drop place cycle)
  steps_more first cycle place steps step is within own =
      ap (λ front. front ++ steps_to tables entries changes first (drop (place + 1) cycle)) (map-append step_view steps (step ∷ []))
      ∙ append_assoc (map step_view steps) (step_view step ∷ []) (steps_to tables entries changes first (drop (place + 1) cycle))
      ∙ ap (λ s. map step_view steps ++ s ∷ steps_to tables entries changes first (drop (place + 1) cycle)) own
      ∙ ap (λ rest. map step_view steps ++ rest) (sym (steps_next first cycle place is within))

  pub cycle_is : (cycle : List ℕ) → (length cycle == 0) ≡ false → InCycle (steps_of tables entries changes cycle) ≡ cycle_answer tables entries changes cycle
  cycle_is [] some = absurd (full some)
    where
      full : (0 == 0) ≡ false → ⊥
      full e = true≢false e
  cycle_is (first ∷ others) some = refl

  pub no_cycle_is : (cycle : List ℕ) → (length cycle == 0) ≡ true → Undecided ≡ cycle_answer tables entries changes cycle
  no_cycle_is [] none = refl
  no_cycle_is (first ∷ others) none = absurd (omega (arith, eqb-true (length (first ∷ others)) 0 none))
