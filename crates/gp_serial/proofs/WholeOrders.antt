-- Where an order has all numbers there is no cycle of them: each comes behind those that are before it.
use Rattle.gp_serial.proofs.Prelude.{◌≡◌, ◌≢◌, ◌<◌, ℕ, zero, suc, Bool, true, false, cond, List, [], ◌∷◌, length, Option, Some, None, refl, sym, ap, ◌∙◌, subst, arith, ◌==◌, ◌||◌, filter, find, not, unwrap_or, AllByRecursion, flat_map, list_any, option_map_or, and_parts, eqb-true, false≢true, same_Some, eq_itself, numbers, place_in}
use Rattle.gp_serial.specs.Graphs.{closes, is_cycle, is_free, least_cycle, lists_of, ordered}
use Rattle.gp_serial.proofs.AgreeLemmas.{all_lists_in}
use Rattle.gp_serial.proofs.OrderLemmas.{rest_of}

abbrev pub is_in : List ℕ → ℕ → Bool
is_in list t = list_any (λ other. other == t) list

-- what is in a list and passes is something that passes
any_of : (p : ℕ → Bool) (list : List ℕ) (t : ℕ) → is_in list t ≡ true → p t ≡ true → list_any p list ≡ true
any_of p [] t there e = absurd (false≢true there)
any_of p (u ∷ list) t there e = by (λ r. any_of p list t r e) (u == t) refl there
  where
    by : (is_in list t ≡ true → list_any p list ≡ true) → (b : Bool) → (u == t) ≡ b → b || is_in list t ≡ true → p u || list_any p list ≡ true
    by rest true is there = ap (λ w. p w || list_any p list) (eqb-true u t is) ∙ ap (λ b. b || list_any p list) e
    by rest false is there = either (p u) (rest there)
      where
        either : (b : Bool) → list_any p list ≡ true → b || list_any p list ≡ true
        either true rest = refl
        either false rest = rest

-- another number stays
stays : (t u : ℕ) (left : List ℕ) → (u == t) ≡ false → is_in left u ≡ true → is_in (filter (λ other. not (other == t)) left) u ≡ true
stays t u [] other there = there
stays t u (w ∷ left) other there = by (stays t u left other) (w == t) (w == u) refl refl there
  where
    by : (is_in left u ≡ true → is_in (filter (λ other. not (other == t)) left) u ≡ true) → (b c : Bool) → (w == t) ≡ b → (w == u) ≡ c → c || is_in left u ≡ true
        → is_in (cond (not b) (w ∷ filter (λ other. not (other == t)) left) (filter (λ other. not (other == t)) left)) u ≡ true
    by rest true true at is there = absurd (false≢true (sym other ∙ ap (λ n. n == t) (sym (eqb-true w u is)) ∙ at))
    by rest true false at is there = rest there
    by rest false true at is there = ap (λ b. b || is_in (filter (λ other. not (other == t)) left) u) is
    by rest false false at is there = ap (λ b. b || is_in (filter (λ other. not (other == t)) left) u) is ∙ rest there

module _ (is_before : ℕ → ℕ → Bool) where
  -- what was found is free
  found_free : (p : ℕ → Bool) (left : List ℕ) (t : ℕ) → find p left ≡ Some t → p t ≡ true
  found_free p [] t e = absurd cc
  found_free p (u ∷ left) t e = by (found_free p left t) (p u) refl e
    where
      by : (find p left ≡ Some t → p t ≡ true) → (b : Bool) → p u ≡ b → cond b (Some u) (find p left) ≡ Some t → p t ≡ true
      by rest true is e = subst (λ w. p w ≡ true) (same_Some u t e) is
      by rest false is e = rest e

  -- in a whole order, what is before a number stands before it
  keeps : (more : ℕ) (left : List ℕ) → rest_of is_before more left ≡ [] → (x y : ℕ) → is_in left x ≡ true → is_in left y ≡ true → is_before x y ≡ true
      → place_in x (ordered is_before more left) < place_in y (ordered is_before more left)
  keeps zero left whole x y one two e = absurd (false≢true (sym (ap (λ list. is_in list x) whole) ∙ one))
  keeps (suc more) left whole x y one two e = by (λ rest over a b. keeps more rest over x y a b e) (find (is_free is_before left) left) refl whole
    where
      by : ((rest : List ℕ) → rest_of is_before more rest ≡ [] → is_in rest x ≡ true → is_in rest y ≡ true → place_in x (ordered is_before more rest) < place_in y (ordered is_before more rest))
          → (found : Option ℕ) → find (is_free is_before left) left ≡ found → option_map_or (λ (t : ℕ). rest_of is_before more (filter (λ other. not (other == t)) left)) found left ≡ []
          → place_in x (option_map_or (λ (t : ℕ). t ∷ ordered is_before more (filter (λ other. not (other == t)) left)) found [])
          < place_in y (option_map_or (λ (t : ℕ). t ∷ ordered is_before more (filter (λ other. not (other == t)) left)) found [])
      by fewer None is whole = absurd (false≢true (sym (ap (λ list. is_in list x) whole) ∙ one))
      by fewer (Some t) is whole = at (t == x) (t == y) refl refl
        where
          free : list_any (λ other. is_before other t) left ≡ false
          free = negated (list_any (λ other. is_before other t) left) (found_free (is_free is_before left) left t is)
            where
              negated : (b : Bool) → not b ≡ true → b ≡ false
              negated true e = absurd (false≢true e)
              negated false e = refl

          turned : (n m : ℕ) → (n == m) ≡ false → (m == n) ≡ false
          turned n m e = cases (m == n) refl
            where
              cases : (b : Bool) → (m == n) ≡ b → b ≡ false
              cases true is = absurd (false≢true (sym e ∙ ap (λ w. n == w) (eqb-true m n is) ∙ eq_itself n))
              cases false is = refl

          at : (b c : Bool) → (t == x) ≡ b → (t == y) ≡ c
              → cond b zero (suc (place_in x (ordered is_before more (filter (λ other. not (other == t)) left))))
              < cond c zero (suc (place_in y (ordered is_before more (filter (λ other. not (other == t)) left))))
          at b true p q =
              absurd (false≢true (sym free ∙ any_of (λ other. is_before other t) left x one (ap (is_before x) (eqb-true t y q) ∙ e)))
          at true false p q = omega arith
          at false false p q =
              let less = fewer (filter (λ other. not (other == t)) left) whole (stays t x left (turned t x p) one) (stays t y left (turned t y q) two) in
              omega (arith, less)

  module _ (all : List ℕ) (whole : rest_of is_before (length all) all ≡ []) where
    abbrev place : ℕ → ℕ
    place t = place_in t (ordered is_before (length all) all)

    abbrev IsOne : ℕ → Type 0
    IsOne t = is_in all t ≡ true

    up : (first : ℕ) → IsOne first → (a : ℕ) (others : List ℕ) → AllByRecursion IsOne (a ∷ others) → closes is_before first (a ∷ others) ≡ true → place a < place first
    up first one a [] (own, rest) e = keeps (length all) all whole a first own one e
    up first one a (b ∷ others) (own, rest) e =
        let parts = and_parts (is_before a b) (closes is_before first (b ∷ others)) e in
        let step = keeps (length all) all whole a b own rest.0 parts.0 in
        let more = up first one b others rest parts.1 in
        omega (arith, step, more)

    no_cycle : (list : List ℕ) → AllByRecursion IsOne list → is_cycle is_before list ≡ false
    no_cycle [] each = refl
    no_cycle (first ∷ others) each = by (closes is_before first (first ∷ others)) refl
      where
        by : (b : Bool) → closes is_before first (first ∷ others) ≡ b → b ≡ false
        by true e = let less = up first each.0 first others each e in absurd (omega (arith, less))
        by false e = refl

    pub none_least : AllByRecursion IsOne all → (sorted : List ℕ) → AllByRecursion IsOne sorted → least_cycle is_before sorted ≡ []
    none_least each sorted each-sorted =
        ap (λ (found : Option (List ℕ)). unwrap_or found [])
        (never (flat_map (λ n. lists_of n sorted) (numbers (length sorted)))
        (all_lists_in is_before is_before IsOne (λ a b one two. refl) (numbers (length sorted)) sorted each-sorted))
      where
        never : (lists : List (List ℕ)) → AllByRecursion (AllByRecursion IsOne) lists → find (is_cycle is_before) lists ≡ None
        never [] each = refl
        never (list ∷ lists) each = ap (λ b. cond b (Some list) (find (is_cycle is_before) lists)) (no_cycle list each.0) ∙ never lists each.1
