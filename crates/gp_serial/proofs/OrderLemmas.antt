-- An order has numbers that are there, each once; it has all of them if it is as long.
use Rattle.gp_serial.proofs.Prelude.{◌≡◌, ℕ, zero, suc, Bool, true, false, cond, List, [], ◌∷◌, ◌++◌, length, length-append, Option, Some, None, refl, sym, ap, ◌∙◌, subst, arith, ◌==◌, ◌||◌, filter, find, not, list_any, IsPermutation, option_map_or, eqb-true, false≢true, append-nil, append_assoc, same_Some, as_long, eq_itself, AreDistinct}
use Rattle.gp_base.proofs.Bags.{SameBag, first, swapped, through, same}
use Rattle.gp_base.proofs.Permutations.{permuted}
use Rattle.gp_serial.specs.Graphs.{is_free, order_of, ordered}

-- no number occurs twice
abbrev pub AreDifferent : List ℕ → Type 0
AreDifferent = AreDistinct (λ (t u : ℕ). t == u)

abbrev pub without : ℕ → List ℕ → List ℕ
without t left = filter (λ other. not (other == t)) left

-- a number that is not there takes nothing away
without_none : (t : ℕ) (left : List ℕ) → list_any (λ other. other == t) left ≡ false → without t left ≡ left
without_none t [] e = refl
without_none t (u ∷ left) e = by (without_none t left) (u == t) refl e
  where
    by : (list_any (λ other. other == t) left ≡ false → without t left ≡ left) → (b : Bool) → (u == t) ≡ b → b || list_any (λ other. other == t) left ≡ false → cond (not b) (u ∷ without t left) (without t left) ≡ u ∷ left
    by rest true is e = absurd (false≢true (sym e))
    by rest false is e = ap (λ others. u ∷ others) (rest e)

-- a number that was found, and the others
found_first : (p : ℕ → Bool) (t : ℕ) (left : List ℕ) → AreDifferent left → find p left ≡ Some t → SameBag (t ∷ without t left) left
found_first p t [] once e = absurd cc
found_first p t (u ∷ left) (new, once) e = by (found_first p t left once) (p u) e
  where
    here : u ≡ t → SameBag (t ∷ without t (u ∷ left)) (u ∷ left)
    here is = subst (λ w. SameBag (w ∷ without w (u ∷ left)) (u ∷ left)) is
        (subst (λ b. SameBag (u ∷ cond (not b) (u ∷ without u left) (without u left)) (u ∷ left)) (sym (eq_itself u))
        (subst (λ others. SameBag (u ∷ others) (u ∷ left)) (sym (without_none u left new)) (same (u ∷ left))))

    there : SameBag (t ∷ without t left) left → SameBag (t ∷ without t (u ∷ left)) (u ∷ left)
    there others = apart (u == t) refl
      where
        apart : (b : Bool) → (u == t) ≡ b → SameBag (t ∷ cond (not b) (u ∷ without t left) (without t left)) (u ∷ left)
        apart true is = subst (λ b. SameBag (t ∷ cond (not b) (u ∷ without t left) (without t left)) (u ∷ left)) is (here (eqb-true u t is))
        apart false is = through swapped (first others)

    by : (find p left ≡ Some t → SameBag (t ∷ without t left) left) → (b : Bool) → cond b (Some u) (find p left) ≡ Some t → SameBag (t ∷ without t (u ∷ left)) (u ∷ left)
    by rest true e = here (same_Some u t e)
    by rest false e = there (rest e)

-- what is left are different numbers
pub without_different : (t : ℕ) (left : List ℕ) → AreDifferent left → AreDifferent (without t left)
without_different t [] once = tt
without_different t (u ∷ left) (new, once) = by (without_different t left once) (u == t)
  where
    fewer : (left : List ℕ) → list_any (λ other. other == u) left ≡ false → list_any (λ other. other == u) (without t left) ≡ false
    fewer [] e = refl
    fewer (w ∷ left) e = at (fewer left) (w == t) (w == u) refl e
      where
        at : (list_any (λ other. other == u) left ≡ false → list_any (λ other. other == u) (without t left) ≡ false) → (b c : Bool) → (w == u) ≡ c → c || list_any (λ other. other == u) left ≡ false → list_any (λ other. other == u) (cond (not b) (w ∷ without t left) (without t left)) ≡ false
        at rest b true is e = absurd (false≢true (sym e))
        at rest true false is e = rest e
        at rest false false is e = ap (λ d. d || list_any (λ other. other == u) (without t left)) is ∙ rest e

    by : AreDifferent (without t left) → (b : Bool) → AreDifferent (cond (not b) (u ∷ without t left) (without t left))
    by rest true = rest
    by rest false = (fewer left new, rest)

module _ (is_before : ℕ → ℕ → Bool) where
  -- an order, and what is left behind it
  abbrev pub rest_of : ℕ → List ℕ → List ℕ
  rest_of zero left = left
  rest_of (suc more) left = option_map_or (λ (t : ℕ). rest_of more (without t left)) (find (is_free is_before left) left) left

  -- no number is free, or one is
  pub order_stops : (order left : List ℕ) (n : ℕ) → find (is_free is_before left) left ≡ None → order ++ ordered is_before n left ≡ order
  order_stops order left zero e = append-nil order
  order_stops order left (suc n) e = ap (λ (found : Option ℕ). order ++ option_map_or (λ (t : ℕ). t ∷ ordered is_before n (without t left)) found []) e ∙ append-nil order

  pub order_turns : (order left : List ℕ) (n more t : ℕ) → n ≡ suc more → find (is_free is_before left) left ≡ Some t
      → (order ++ t ∷ []) ++ ordered is_before more (without t left) ≡ order ++ ordered is_before n left
  order_turns order left n more t one e =
      append_assoc order (t ∷ []) (ordered is_before more (without t left))
      ∙ ap (λ (found : Option ℕ). order ++ option_map_or (λ (u : ℕ). u ∷ ordered is_before more (without u left)) found []) (sym e)
      ∙ ap (λ m. order ++ ordered is_before m left) (sym one)

  pub order_takes : (more : ℕ) (left : List ℕ) → AreDifferent left → SameBag (ordered is_before more left ++ rest_of more left) left
  order_takes zero left once = same left
  order_takes (suc more) left once = by (order_takes more) (find (is_free is_before left) left) refl
    where
      by : ((rest : List ℕ) → AreDifferent rest → SameBag (ordered is_before more rest ++ rest_of more rest) rest) → (found : Option ℕ) → find (is_free is_before left) left ≡ found
          → SameBag (option_map_or (λ (t : ℕ). t ∷ ordered is_before more (without t left)) found [] ++ option_map_or (λ (t : ℕ). rest_of more (without t left)) found left) left
      by fewer None is = same left
      by fewer (Some t) is = through (first (fewer (without t left) (without_different t left once))) (found_first (is_free is_before left) t left once is)

  -- an order of as many numbers has all of them
  pub order_has_all : (all : List ℕ) → AreDifferent all → length (order_of is_before all) ≡ length all → IsPermutation (order_of is_before all) all
  order_has_all all once e =
      permuted _ _
      (subst (λ (order : List ℕ). SameBag order all) (append-nil (order_of is_before all))
      (subst (λ rest. SameBag (order_of is_before all ++ rest) all) (none (rest_of (length all) all) counted) (order_takes (length all) all once)))
    where
      counted : length (order_of is_before all) ≡ length (order_of is_before all ++ rest_of (length all) all)
      counted = e ∙ sym (as_long (order_takes (length all) all once))

      none : (rest : List ℕ) → length (order_of is_before all) ≡ length (order_of is_before all ++ rest) → rest ≡ []
      none [] e = refl
      none (t ∷ rest) e = absurd (omega (arith, e, length-append (order_of is_before all) (t ∷ rest)))
