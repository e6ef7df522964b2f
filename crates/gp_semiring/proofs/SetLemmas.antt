-- Items put in their places come to the set of them, and sets put to others come to the minimal ones.
use Rattle.std.proofs.Common.{◌≡◌, ◌≤◌, ◌<◌, ◌+◌, ℕ, zero, suc, refl, sym, ap, subst, ◌∙◌, arith, cond, T, Bool, true, false, not, ◌&&◌, ◌||◌, List, [], ◌∷◌, ◌++◌, length, drop, slice_index_or, insert}
use Rattle.std.proofs.lemmas.Cmp.{tied_itself}
use Rattle.std.proofs.lemmas.List.{drop_more}
use Rattle.std.specs.Prelude.{◌≢◌, Some, None, unwrap_or}
use Rattle.std.specs.List.{filter, list_any, list_all}
use Rattle.std.specs.Ordering.{is_lt, is_gt, is_eq, ordering_reverse, eq_by_cmp}
use Rattle.std.specs.Cmp.{IsTotalOrder}
use Rattle.std.specs.Cmp.Lexicographic.{slice_cmp}
use Rattle.std.specs.declared.cmp.Ordering.{Ordering}
use Rattle.std.specs.declared.cmp.Ordering.TheVariants.{Less, Equal, Greater}
use Rattle.std.specs.FinMap.{is_sorted}
use Rattle.std.specs.FinMap.Entries.{by_order, below_all}
use Rattle.gp_base.specs.declared.token.Token.{Token}
use Rattle.gp_base.specs.Tokens.{token_cmp}
use Rattle.gp_base.specs.TokenOrder.{token_cmp_total, token_cmp-exact}
use Rattle.gp_semiring.specs.SumForms.{Each}
use Rattle.gp_semiring.specs.SumLaws.{first, second, both, less, equal, below_less, is_sorted_of, is_true_of}
use Rattle.gp_semiring.specs.Witnesses.{Sets, contains, is_within, placed, set_of, with_set, witness_plus, witness_times}
use Rattle.gp_semiring.specs.WitnessForms.{IsRising, IsWitness, tagged}
use Rattle.gp_semiring.specs.WitnessAdding.{place_in, rest_after, with_items, with_sets, with_row, with_unions}
use Rattle.gp_semiring.specs.WitnessLaws.{all_own, rising_filter, sets_same, sets_total, or_crossed, or_assoc, or_false, and_false, any_append, all_append, any_placed, all_set, rising_placed, rising_set, same_rising, holds, holds_with, holds_plus, holds_times, with_set_in, none_in, plus_in, times_in, same_witness}

module _ {X : Type 0} (R : X → X → Ordering) where
  place_within : (x : X) (ys : List X) → place_in R x ys ≤ length ys
  place_within x [] = omega arith
  place_within x (y ∷ ys) = elim (is_gt (R x y)) as (λ b. cond b (suc (place_in R x ys)) 0 ≤ suc (length ys)) [ true ↦ (let p = place_within x ys in omega arith) | false ↦ omega arith ]

  placed_equal : (x : X) (ys : List X) (z : X) → place_in R x ys < length ys → z ≡ slice_index_or ys (place_in R x ys) z → R x z ≡ Equal → ys ≡ placed R x ys
  placed_equal x [] z lt is tie = absurd (omega arith)
  placed_equal x (y ∷ ys) z lt is tie =
      elim (R x y) as (λ r. R x y ≡ r → cond (is_gt r) (suc (place_in R x ys)) 0 < suc (length ys) → z ≡ slice_index_or (y ∷ ys) (cond (is_gt r) (suc (place_in R x ys)) 0) z → y ∷ ys ≡ by_order r (x ∷ y ∷ ys) (y ∷ ys) (y ∷ placed R x ys)) [
        | Less ↦ λ p l i. absurd (not_equal (sym p ∙ ap (R x) (sym i) ∙ tie))
        | Equal ↦ λ p l i. refl
        | Greater ↦ λ p l i. ap (λ zs. y ∷ zs) (placed_equal x ys z (omega arith) i tie)
      ] refl lt is
    where
      not_equal : Less ≡ Equal → ⊥
      not_equal p = cc

  placed_inside : (x : X) (ys : List X) (z : X) → (place_in R x ys < length ys → z ≡ slice_index_or ys (place_in R x ys) z) → (place_in R x ys < length ys → R x z ≢ Equal) → insert ys (place_in R x ys) x ≡ placed R x ys
  placed_inside x [] z is other = refl
  placed_inside x (y ∷ ys) z is other =
      elim (R x y) as (λ r. R x y ≡ r → (cond (is_gt r) (suc (place_in R x ys)) 0 < suc (length ys) → z ≡ slice_index_or (y ∷ ys) (cond (is_gt r) (suc (place_in R x ys)) 0) z) → (cond (is_gt r) (suc (place_in R x ys)) 0 < suc (length ys) → R x z ≢ Equal)
      → insert (y ∷ ys) (cond (is_gt r) (suc (place_in R x ys)) 0) x ≡ by_order r (x ∷ y ∷ ys) (y ∷ ys) (y ∷ placed R x ys)) [
        | Less ↦ λ p i o. refl
        | Equal ↦ λ p i o. absurd (o (omega arith) (ap (R x) (i (omega arith)) ∙ p))
        | Greater ↦ λ p i o. ap (λ zs. y ∷ zs) (placed_inside x ys z (λ l. i (omega arith)) (λ l. o (omega arith)))
      ] refl is other

  placed_end : (x : X) (ys : List X) → place_in R x ys ≡ length ys → ys ++ x ∷ [] ≡ placed R x ys
  placed_end x [] end = refl
  placed_end x (y ∷ ys) end =
      elim (R x y) as (λ r. cond (is_gt r) (suc (place_in R x ys)) 0 ≡ suc (length ys) → (y ∷ ys) ++ x ∷ [] ≡ by_order r (x ∷ y ∷ ys) (y ∷ ys) (y ∷ placed R x ys)) [
        | Less ↦ λ l. absurd (omega arith)
        | Equal ↦ λ l. absurd (omega arith)
        | Greater ↦ λ l. ap (λ zs. y ∷ zs) (placed_end x ys (omega arith))
      ] end

-- ---- tokens and sets in their places

pub token_within : (x : Token) (ys : List Token) → place_in token_cmp x ys ≤ length ys
token_within = place_within token_cmp

pub token_equal : (x : Token) (ys : List Token) (z : Token) → place_in token_cmp x ys < length ys → z ≡ slice_index_or ys (place_in token_cmp x ys) z → token_cmp x z ≡ Equal → ys ≡ placed token_cmp x ys
token_equal = placed_equal token_cmp

pub token_inside : (x : Token) (ys : List Token) (z : Token) → z ≡ slice_index_or ys (place_in token_cmp x ys) z → token_cmp x z ≢ Equal → insert ys (place_in token_cmp x ys) x ≡ placed token_cmp x ys
token_inside x ys z is other = placed_inside token_cmp x ys z (λ l. is) (λ l. other)

pub token_end : (x : Token) (ys : List Token) → place_in token_cmp x ys ≡ length ys → ys ++ x ∷ [] ≡ placed token_cmp x ys
token_end = placed_end token_cmp

pub set_within : (x : List Token) (ys : Sets) → place_in (slice_cmp token_cmp) x ys ≤ length ys
set_within = place_within (slice_cmp token_cmp)

pub set_equal : (x : List Token) (ys : Sets) (z : List Token) → place_in (slice_cmp token_cmp) x ys < length ys → z ≡ slice_index_or ys (place_in (slice_cmp token_cmp) x ys) z → slice_cmp token_cmp x z ≡ Equal → ys ≡ placed (slice_cmp token_cmp) x ys
set_equal = placed_equal (slice_cmp token_cmp)

pub set_inside : (x : List Token) (ys : Sets) (z : List Token) → z ≡ slice_index_or ys (place_in (slice_cmp token_cmp) x ys) z → slice_cmp token_cmp x z ≢ Equal → insert ys (place_in (slice_cmp token_cmp) x ys) x ≡ placed (slice_cmp token_cmp) x ys
set_inside x ys z is other = placed_inside (slice_cmp token_cmp) x ys z (λ l. is) (λ l. other)

pub set_end : (x : List Token) (ys : Sets) → place_in (slice_cmp token_cmp) x ys ≡ length ys → ys ++ x ∷ [] ≡ placed (slice_cmp token_cmp) x ys
set_end = placed_end (slice_cmp token_cmp)

-- ---- one rising list within another, walked together

module _ {X : Type 0} (R : X → X → Ordering) where
  none_below : (x : X) (ys : List X) → T (below_all R x (tagged ys)) → contains R x ys ≡ false
  none_below x [] h = refl
  none_below x (y ∷ ys) h =
      ap (λ r. is_eq r || contains R x ys) (less (R x y) (first (is_lt (R x y)) (below_all R x (tagged ys)) h)) ∙ none_below x ys (second (is_lt (R x y)) (below_all R x (tagged ys)) h)

  below_of : (x : X) (xs : List X) → IsRising R (x ∷ xs) → T (below_all R x (tagged xs))
  below_of x xs h = first (below_all R x (tagged xs)) (is_sorted R (tagged xs)) (is_sorted_of (is_sorted R (tagged (x ∷ xs))) h)

  rest_rises : (x : X) (xs : List X) → IsRising R (x ∷ xs) → IsRising R xs
  rest_rises x xs h = is_true_of (is_sorted R (tagged xs)) (second (below_all R x (tagged xs)) (is_sorted R (tagged xs)) (is_sorted_of (is_sorted R (tagged (x ∷ xs))) h))

  module _ (o : IsTotalOrder R) (same : (x y : X) → R x y ≡ Equal → x ≡ y) where
    below_both : (x y : X) (ys : List X) → R x y ≡ Less → T (below_all R y (tagged ys)) → T (below_all R x (tagged (y ∷ ys)))
    below_both x y ys p h =
        both (is_lt (R x y)) (below_all R x (tagged ys)) (subst (λ r. T (is_lt r)) (sym p) tt) (below_less R (λ (a : Unit {0}) (b : Unit {0}). a) o x y (tagged ys) p h)

    -- an item below all of a list is none of them
    head_skipped : (y : X) (ys xs : List X) → T (below_all R y (tagged xs)) → is_within R xs (y ∷ ys) ≡ is_within R xs ys
    head_skipped y ys [] h = refl
    head_skipped y ys (x ∷ xs) h =
        ap (λ r. (is_eq r || contains R x ys) && is_within R xs (y ∷ ys)) (o.antisymm x y ∙ ap ordering_reverse (less (R y x) (first (is_lt (R y x)) (below_all R y (tagged xs)) h)))
        ∙ ap (λ b. contains R x ys && b) (head_skipped y ys xs (second (is_lt (R y x)) (below_all R y (tagged xs)) h))

    missing : (x : X) (xs ys : List X) → IsRising R (x ∷ xs) → IsRising R ys → rest_after R x ys ≡ None → is_within R (x ∷ xs) ys ≡ false
    missing x xs [] h k e = refl
    missing x xs (y ∷ ys) h k e =
        elim (R x y) as (λ r. R x y ≡ r → by_order r None (Some ys) (rest_after R x ys) ≡ None → is_within R (x ∷ xs) (y ∷ ys) ≡ false) [
          | Less ↦ λ p q. ap (λ b. b && is_within R xs (y ∷ ys)) (none_below x (y ∷ ys) (below_both x y ys p (below_of y ys k)))
          | Equal ↦ λ p q. absurd (cc)
          | Greater ↦ λ p q. head_skipped y ys (x ∷ xs) (below_both y x xs (o.antisymm y x ∙ ap ordering_reverse p) (below_of x xs h)) ∙ missing x xs ys h (rest_rises y ys k) q
        ] refl e

    found : (x : X) (xs ys zs : List X) → IsRising R (x ∷ xs) → IsRising R ys → rest_after R x ys ≡ Some zs → is_within R (x ∷ xs) ys ≡ is_within R xs zs
    found x xs [] zs h k e = absurd (cc)
    found x xs (y ∷ ys) zs h k e =
        elim (R x y) as (λ r. R x y ≡ r → by_order r None (Some ys) (rest_after R x ys) ≡ Some zs → is_within R (x ∷ xs) (y ∷ ys) ≡ is_within R xs zs) [
          | Less ↦ λ p q. absurd (cc)
          | Equal ↦ λ p q.
              ap (λ r. (is_eq r || contains R x ys) && is_within R xs (y ∷ ys)) p ∙ head_skipped y ys xs (subst (λ z. T (below_all R z (tagged xs))) (same x y p) (below_of x xs h))
              ∙ ap (λ l. is_within R xs (unwrap_or l ys)) q
          | Greater ↦ λ p q. head_skipped y ys (x ∷ xs) (below_both y x xs (o.antisymm y x ∙ ap ordering_reverse p) (below_of x xs h)) ∙ found x xs ys zs h (rest_rises y ys k) q
        ] refl e

    rest_after_rises : (x : X) (ys zs : List X) → IsRising R ys → rest_after R x ys ≡ Some zs → IsRising R zs
    rest_after_rises x [] zs k e = absurd (cc)
    rest_after_rises x (y ∷ ys) zs k e =
        elim (R x y) as (λ r. by_order r None (Some ys) (rest_after R x ys) ≡ Some zs → IsRising R zs) [
          | Less ↦ λ q. absurd (cc)
          | Equal ↦ λ q. subst (λ l. IsRising R (unwrap_or l ys)) q (rest_rises y ys k)
          | Greater ↦ λ q. rest_after_rises x ys zs (rest_rises y ys k) q
        ] e

    none_first : (x y : X) (xs ys : List X) → R x y ≡ Less → IsRising R ys → T (below_all R y (tagged ys)) → is_within R (x ∷ xs) (y ∷ ys) ≡ true → ⊥
    none_first x y xs ys p k h w = false_true (sym (ap (λ b. b && is_within R xs (y ∷ ys)) (none_below x (y ∷ ys) (below_both x y ys p h))) ∙ w)
      where
        false_true : false ≡ true → ⊥
        false_true q = cc

    both_left : (x y : X) (xs ys : List X) → IsRising R (x ∷ xs) → IsRising R (y ∷ ys) → R x y ≡ Equal → is_within R (x ∷ xs) (y ∷ ys) ≡ is_within R xs ys
    both_left x y xs ys h k p = found x xs (y ∷ ys) ys h k (ap (λ r. by_order r None (Some ys) (rest_after R x ys)) p)

    one_left : (x y : X) (xs ys : List X) → IsRising R (x ∷ xs) → R x y ≡ Greater → is_within R (x ∷ xs) (y ∷ ys) ≡ is_within R (x ∷ xs) ys
    one_left x y xs ys h p = head_skipped y ys (x ∷ xs) (below_both y x xs (o.antisymm y x ∙ ap ordering_reverse p) (below_of x xs h))

    -- a list within another is no longer, and as long only if it is the same
    no_longer : (xs ys : List X) → IsRising R xs → IsRising R ys → is_within R xs ys ≡ true → length xs ≤ length ys
    no_longer [] ys h k w = omega arith
    no_longer (x ∷ xs) [] h k w = absurd (cc)
    no_longer (x ∷ xs) (y ∷ ys) h k w =
        elim (R x y) as (λ r. R x y ≡ r → suc (length xs) ≤ suc (length ys)) [
          | Less ↦ λ p. absurd (none_first x y xs ys p (rest_rises y ys k) (below_of y ys k) w)
          | Equal ↦ λ p. (let rest = no_longer xs ys (rest_rises x xs h) (rest_rises y ys k) (sym (both_left x y xs ys h k p) ∙ w) in omega arith)
          | Greater ↦ λ p. (let rest = no_longer (x ∷ xs) ys h (rest_rises y ys k) (sym (one_left x y xs ys h p) ∙ w) in omega arith)
        ] refl

    as_long : (xs ys : List X) → IsRising R xs → IsRising R ys → is_within R xs ys ≡ true → length ys ≤ length xs → xs ≡ ys
    as_long [] [] h k w l = refl
    as_long [] (y ∷ ys) h k w l = absurd (omega arith)
    as_long (x ∷ xs) [] h k w l = absurd (cc)
    as_long (x ∷ xs) (y ∷ ys) h k w l =
        elim (R x y) as (λ r. R x y ≡ r → x ∷ xs ≡ y ∷ ys) [
          | Less ↦ λ p. absurd (none_first x y xs ys p (rest_rises y ys k) (below_of y ys k) w)
          | Equal ↦ λ p. ap (λ z. z ∷ xs) (same x y p) ∙ ap (λ zs. y ∷ zs) (as_long xs ys (rest_rises x xs h) (rest_rises y ys k) (sym (both_left x y xs ys h k p) ∙ w) (omega arith))
          | Greater ↦ λ p. (let rest = no_longer (x ∷ xs) ys h (rest_rises y ys k) (sym (one_left x y xs ys h p) ∙ w) in absurd (omega arith))
        ] refl

    -- ---- an item among ascending ones, found by halves

    below_at : (k : X) (ys : List X) (n : ℕ) (z : X) → T (below_all R k (tagged ys)) → n < length ys → z ≡ slice_index_or ys n z → R k z ≡ Less
    below_at k [] n z h lt is = absurd (omega arith)
    below_at k (y ∷ ys) zero z h lt is = ap (R k) is ∙ less (R k y) (first (is_lt (R k y)) (below_all R k (tagged ys)) h)
    below_at k (y ∷ ys) (suc n) z h lt is = below_at k ys n z (second (is_lt (R k y)) (below_all R k (tagged ys)) h) (omega arith) is

    smaller_before : (x y z : X) → R y z ≡ Less → R x z ≡ Greater → R x y ≡ Greater
    smaller_before x y z p q =
        let back : R z x ≡ Less = o.antisymm z x ∙ ap ordering_reverse q in
        o.antisymm x y ∙ ap ordering_reverse (o.trans y z x p back)

    place_after : (x : X) (ys : List X) (n : ℕ) (z : X) → IsRising R ys → n < length ys → z ≡ slice_index_or ys n z → R x z ≡ Greater → suc n ≤ place_in R x ys
    place_after x [] n z h lt is p = absurd (omega arith)
    place_after x (y ∷ ys) zero z h lt is p = rw (sym (ap (R x) is) ∙ p) (omega arith)
    place_after x (y ∷ ys) (suc n) z h lt is p =
        let rest = place_after x ys n z (rest_rises y ys h) (omega arith) is p in
        rw (smaller_before x y z (below_at y ys n z (below_of y ys h) (omega arith) is) p) (omega arith)

    place_before : (x : X) (ys : List X) (n : ℕ) (z : X) → n < length ys → z ≡ slice_index_or ys n z → R x z ≢ Greater → place_in R x ys ≤ n
    place_before x [] n z lt is p = absurd (omega arith)
    place_before x (y ∷ ys) zero z lt is p =
        elim (R x y) as (λ r. R x y ≡ r → cond (is_gt r) (suc (place_in R x ys)) 0 ≤ 0) [
          | Less ↦ λ q. omega arith
          | Equal ↦ λ q. omega arith
          | Greater ↦ λ q. absurd (p (ap (R x) is ∙ q))
        ] refl
    place_before x (y ∷ ys) (suc n) z lt is p =
        let rest = place_before x ys n z (omega arith) is p in
        elim (is_gt (R x y)) as (λ b. cond b (suc (place_in R x ys)) 0 ≤ suc n) [ true ↦ omega arith | false ↦ omega arith ]

    absent : (x : X) (ys : List X) → place_in R x ys ≡ length ys → false ≡ contains R x ys
    absent x [] e = refl
    absent x (y ∷ ys) e =
        elim (R x y) as (λ r. cond (is_gt r) (suc (place_in R x ys)) 0 ≡ suc (length ys) → false ≡ (is_eq r || contains R x ys)) [
          | Less ↦ λ l. absurd (omega arith)
          | Equal ↦ λ l. absurd (omega arith)
          | Greater ↦ λ l. absent x ys (omega arith)
        ] e

    found_there : (x : X) (ys : List X) (z : X) → IsRising R ys → place_in R x ys < length ys → z ≡ slice_index_or ys (place_in R x ys) z → is_eq (R x z) ≡ contains R x ys
    found_there x [] z h lt is = absurd (omega arith)
    found_there x (y ∷ ys) z h lt is =
        elim (R x y) as (λ r. R x y ≡ r → cond (is_gt r) (suc (place_in R x ys)) 0 < suc (length ys) → z ≡ slice_index_or (y ∷ ys) (cond (is_gt r) (suc (place_in R x ys)) 0) z → is_eq (R x z) ≡ (is_eq r || contains R x ys)) [
          | Less ↦ λ p l i. ap (λ w. is_eq (R x w)) i ∙ ap is_eq p ∙ sym (none_below x ys (below_less R (λ (a : Unit {0}) (b : Unit {0}). a) o x y (tagged ys) p (below_of y ys h)))
          | Equal ↦ λ p l i. ap (λ w. is_eq (R x w)) i ∙ ap is_eq p
          | Greater ↦ λ p l i. found_there x ys z (rest_rises y ys h) (omega arith) i
        ] refl lt is

token_missing : (x : Token) (xs ys : List Token) → IsRising token_cmp (x ∷ xs) → IsRising token_cmp ys → rest_after token_cmp x ys ≡ None → is_within token_cmp (x ∷ xs) ys ≡ false
token_missing = missing token_cmp token_cmp_total token_cmp-exact

token_found : (x : Token) (xs ys zs : List Token) → IsRising token_cmp (x ∷ xs) → IsRising token_cmp ys → rest_after token_cmp x ys ≡ Some zs → is_within token_cmp (x ∷ xs) ys ≡ is_within token_cmp xs zs
token_found = found token_cmp token_cmp_total token_cmp-exact

pub token_rest : (x : Token) (ys zs : List Token) → IsRising token_cmp ys → rest_after token_cmp x ys ≡ Some zs → IsRising token_cmp zs
token_rest = rest_after_rises token_cmp token_cmp_total token_cmp-exact

tokens_rise : (x : Token) (xs : List Token) → IsRising token_cmp (x ∷ xs) → IsRising token_cmp xs
tokens_rise = rest_rises token_cmp

-- a turn of the walk: the token at i is looked for
pub walk_stops : (tokens : List Token) (i : ℕ) (d : Token) (ys : List Token) → i < length tokens → IsRising token_cmp (drop i tokens) → IsRising token_cmp ys → rest_after token_cmp (slice_index_or tokens i d) ys ≡ None → is_within token_cmp (drop i tokens) ys ≡ false
walk_stops tokens i d ys lt h k e =
    ap (λ l. is_within token_cmp l ys) (drop_more tokens i d lt) ∙ token_missing (slice_index_or tokens i d) (drop (i + 1) tokens) ys (subst (IsRising token_cmp) (drop_more tokens i d lt) h) k e

pub walk_goes_on : (tokens : List Token) (i : ℕ) (d : Token) (ys zs : List Token) → i < length tokens → IsRising token_cmp (drop i tokens) → IsRising token_cmp ys → rest_after token_cmp (slice_index_or tokens i d) ys ≡ Some zs → is_within token_cmp (drop (i + 1) tokens) zs ≡ is_within token_cmp (drop i tokens) ys
walk_goes_on tokens i d ys zs lt h k e =
    sym (ap (λ l. is_within token_cmp l ys) (drop_more tokens i d lt) ∙ token_found (slice_index_or tokens i d) (drop (i + 1) tokens) ys zs (subst (IsRising token_cmp) (drop_more tokens i d lt) h) k e)

pub walk_rises : (tokens : List Token) (i : ℕ) (d : Token) → i < length tokens → IsRising token_cmp (drop i tokens) → IsRising token_cmp (drop (i + 1) tokens)
walk_rises tokens i d lt h = tokens_rise (slice_index_or tokens i d) (drop (i + 1) tokens) (subst (IsRising token_cmp) (drop_more tokens i d lt) h)

-- where no item is within, none is left out
pub all_kept : {X : Type 0} (p : X → Bool) (xs : List X) → list_any p xs ≡ false → filter (λ x. not (p x)) xs ≡ xs
all_kept p [] h = refl
all_kept p (x ∷ xs) h =
    elim (p x) as (λ b. p x ≡ b → (b || list_any p xs) ≡ false → cond (not b) (x ∷ filter (λ y. not (p y)) xs) (filter (λ y. not (p y)) xs) ≡ x ∷ xs) [
      | true ↦ λ e k. absurd (cc)
      | false ↦ λ e k. ap (λ ys. x ∷ ys) (all_kept p xs k)
    ] refl h

-- ---- what the additions come to

or_moved : (a b c : Bool) → (a || (b || c)) ≡ ((b || a) || c)
or_moved a b c = or_crossed a b c ∙ sym (or_assoc b a c)

row_moved : (a b h c : Bool) → ((a && h) || ((a && b) || c)) ≡ ((a && (b || h)) || c)
row_moved false b h c = refl
row_moved true true true c = refl
row_moved true true false c = refl
row_moved true false h c = refl

column_moved : (p a y c : Bool) → ((p && y) || ((a && y) || c)) ≡ (((a || p) && y) || c)
column_moved p false y c = refl
column_moved true true true c = refl
column_moved true true false c = refl
column_moved false true y c = refl

module _ {X : Type 0} (R : X → X → Ordering) (o : IsTotalOrder R) (same : (x y : X) → R x y ≡ Equal → x ≡ y) where
  rising_items : (xs ys : List X) → IsRising R ys → IsRising R (with_items R xs ys)
  rising_items [] ys h = h
  rising_items (x ∷ xs) ys h = rising_items xs (placed R x ys) (rising_placed R o same x ys h)

  any_items : (S : X → Bool) (xs ys : List X) → list_any S (with_items R xs ys) ≡ (list_any S xs || list_any S ys)
  any_items S [] ys = refl
  any_items S (x ∷ xs) ys = any_items S xs (placed R x ys) ∙ ap (λ b. list_any S xs || b) (any_placed R o same S x ys) ∙ or_moved (list_any S xs) (S x) (list_any S ys)

  any_set : (S : X → Bool) (xs : List X) → list_any S (set_of R xs) ≡ list_any S xs
  any_set S [] = refl
  any_set S (x ∷ xs) = any_placed R o same S x (set_of R xs) ∙ ap (λ b. S x || b) (any_set S xs)

  items_are : (xs ys : List X) → IsRising R ys → with_items R xs ys ≡ set_of R (xs ++ ys)
  items_are xs ys h =
      same_rising R o same _ _ (rising_items xs ys h) (rising_set R o same (xs ++ ys))
      (λ x. any_items (λ y. eq_by_cmp R x y) xs ys ∙ sym (any_append (λ y. eq_by_cmp R x y) xs ys) ∙ sym (any_set (λ y. eq_by_cmp R x y) (xs ++ ys)))

  sets_in : (xs ys : List (List X)) → Each (IsRising R) xs → IsWitness R ys → IsWitness R (with_sets R xs ys)
  sets_in [] ys p h = h
  sets_in (s ∷ xs) ys p h = sets_in xs (with_set R s ys) p.1 (with_set_in R o same s ys p.0 h)

  holds_sets : (S : X → Bool) (xs ys : List (List X)) → holds S (with_sets R xs ys) ≡ (holds S xs || holds S ys)
  holds_sets S [] ys = refl
  holds_sets S (s ∷ xs) ys = holds_sets S xs (with_set R s ys) ∙ ap (λ b. holds S xs || b) (holds_with R o same S s ys) ∙ or_moved (holds S xs) (list_all S s) (holds S ys)

  sets_are : (xs ys : List (List X)) → IsWitness R xs → IsWitness R ys → with_sets R xs ys ≡ witness_plus R xs ys
  sets_are xs ys p q = same_witness R o same _ _ (sets_in xs ys p.each q) (plus_in R o same xs ys p q) (λ S. holds_sets S xs ys ∙ sym (holds_plus R o same S xs ys))

  row_in : (s : List X) (ts sets : List (List X)) → IsWitness R sets → IsWitness R (with_row R s ts sets)
  row_in s [] sets h = h
  row_in s (t ∷ ts) sets h = row_in s ts _ (with_set_in R o same (set_of R (s ++ t)) sets (rising_set R o same (s ++ t)) h)

  holds_row : (S : X → Bool) (s : List X) (ts sets : List (List X)) → holds S (with_row R s ts sets) ≡ ((list_all S s && holds S ts) || holds S sets)
  holds_row S s [] sets = ap (λ b. b || holds S sets) (sym (and_false (list_all S s)))
  holds_row S s (t ∷ ts) sets =
      holds_row S s ts (with_set R (set_of R (s ++ t)) sets)
      ∙ ap (λ b. (list_all S s && holds S ts) || b) (holds_with R o same S (set_of R (s ++ t)) sets ∙ ap (λ b. b || holds S sets) (all_set R o same S (s ++ t) ∙ all_append S s t))
      ∙ row_moved (list_all S s) (list_all S t) (holds S ts) (holds S sets)

  unions_in : (xs ys sets : List (List X)) → IsWitness R sets → IsWitness R (with_unions R xs ys sets)
  unions_in [] ys sets h = h
  unions_in (s ∷ xs) ys sets h = unions_in xs ys (with_row R s ys sets) (row_in s ys sets h)

  holds_unions : (S : X → Bool) (xs ys sets : List (List X)) → holds S (with_unions R xs ys sets) ≡ ((holds S xs && holds S ys) || holds S sets)
  holds_unions S [] ys sets = refl
  holds_unions S (s ∷ xs) ys sets =
      holds_unions S xs ys (with_row R s ys sets) ∙ ap (λ b. (holds S xs && holds S ys) || b) (holds_row S s ys sets) ∙ column_moved (holds S xs) (list_all S s) (holds S ys) (holds S sets)

  unions_are : (xs ys : List (List X)) → IsWitness R xs → IsWitness R ys → with_unions R xs ys [] ≡ witness_times R xs ys
  unions_are xs ys p q =
      same_witness R o same _ _ (unions_in xs ys [] (none_in R o same)) (times_in R o same xs ys p q) (λ S. holds_unions S xs ys [] ∙ or_false (holds S xs && holds S ys) ∙ sym (holds_times R o same S xs ys))

pub union_rises : (xs ys : List Token) → IsRising token_cmp ys → IsRising token_cmp (with_items token_cmp xs ys)
union_rises = rising_items token_cmp token_cmp_total token_cmp-exact

pub union_is : (xs ys : List Token) → IsRising token_cmp ys → with_items token_cmp xs ys ≡ set_of token_cmp (xs ++ ys)
union_is = items_are token_cmp token_cmp_total token_cmp-exact

pub sum_in : (xs ys : Sets) → IsWitness token_cmp xs → IsWitness token_cmp ys → IsWitness token_cmp (with_sets token_cmp xs ys)
sum_in xs ys p q = sets_in token_cmp token_cmp_total token_cmp-exact xs ys p.each q

pub sum_is : (xs ys : Sets) → IsWitness token_cmp xs → IsWitness token_cmp ys → with_sets token_cmp xs ys ≡ witness_plus token_cmp xs ys
sum_is = sets_are token_cmp token_cmp_total token_cmp-exact

pub product_in : (xs ys : Sets) → IsWitness token_cmp (with_unions token_cmp xs ys [])
product_in xs ys = unions_in token_cmp token_cmp_total token_cmp-exact xs ys [] (none_in token_cmp token_cmp_total token_cmp-exact)

pub product_is : (xs ys : Sets) → IsWitness token_cmp xs → IsWitness token_cmp ys → with_unions token_cmp xs ys [] ≡ witness_times token_cmp xs ys
product_is = unions_are token_cmp token_cmp_total token_cmp-exact

-- ---- a set beside others

all_total : IsTotalOrder (slice_cmp token_cmp)
all_total = sets_total token_cmp token_cmp_total token_cmp-exact

all_same : (s t : List Token) → slice_cmp token_cmp s t ≡ Equal → s ≡ t
all_same = sets_same token_cmp token_cmp_total token_cmp-exact

-- a set that is not shorter is not within another
pub none_within : (xs ys : List Token) → IsRising token_cmp xs → IsRising token_cmp ys → xs ≢ ys → length ys ≤ length xs → false ≡ is_within token_cmp xs ys
none_within xs ys h k differ l =
    elim (is_within token_cmp xs ys) as (λ b. is_within token_cmp xs ys ≡ b → false ≡ b) [
      | true ↦ λ w. absurd (differ (as_long token_cmp token_cmp_total token_cmp-exact xs ys h k w l))
      | false ↦ λ w. refl
    ] refl

pub set_after : (x : List Token) (ys : Sets) (n : ℕ) (z : List Token) → IsRising (slice_cmp token_cmp) ys → n < length ys → z ≡ slice_index_or ys n z → slice_cmp token_cmp x z ≡ Greater → suc n ≤ place_in (slice_cmp token_cmp) x ys
set_after = place_after (slice_cmp token_cmp) all_total all_same

pub set_before : (x : List Token) (ys : Sets) (n : ℕ) (z : List Token) → n < length ys → z ≡ slice_index_or ys n z → slice_cmp token_cmp x z ≢ Greater → place_in (slice_cmp token_cmp) x ys ≤ n
set_before = place_before (slice_cmp token_cmp) all_total all_same

pub set_absent : (x : List Token) (ys : Sets) → place_in (slice_cmp token_cmp) x ys ≡ length ys → false ≡ contains (slice_cmp token_cmp) x ys
set_absent = absent (slice_cmp token_cmp) all_total all_same

pub set_there : (x : List Token) (ys : Sets) (z : List Token) → IsRising (slice_cmp token_cmp) ys → place_in (slice_cmp token_cmp) x ys < length ys → z ≡ slice_index_or ys (place_in (slice_cmp token_cmp) x ys) z → is_eq (slice_cmp token_cmp x z) ≡ contains (slice_cmp token_cmp) x ys
set_there = found_there (slice_cmp token_cmp) all_total all_same

-- each of sets is another one than a set that is none of them
pub differs : (set : List Token) (sets : Sets) (n : ℕ) (other : List Token) → contains (slice_cmp token_cmp) set sets ≡ false → n < length sets → other ≡ slice_index_or sets n other → set ≢ other
differs set [] n other c lt is = absurd (omega arith)
differs set (s ∷ sets) zero other c lt is = λ e.
    let tie : slice_cmp token_cmp set s ≡ Equal = ap (slice_cmp token_cmp set) (sym (e ∙ is)) ∙ tied_itself all_total set in
    true_false (sym (ap (λ r. is_eq r || contains (slice_cmp token_cmp) set sets) tie) ∙ c)
  where
    true_false : true ≡ false → ⊥
    true_false q = cc
differs set (s ∷ sets) (suc n) other c lt is = differs set sets n other (or_right (eq_by_cmp (slice_cmp token_cmp) set s) (contains (slice_cmp token_cmp) set sets) c) (omega arith) is
  where
    or_right : (a b : Bool) → (a || b) ≡ false → b ≡ false
    or_right true b h = absurd (cc)
    or_right false b h = h

pub others_differ : (set : List Token) (sets : Sets) (n : ℕ) (other : List Token) → contains (slice_cmp token_cmp) set sets ≡ false → n < length sets → other ≡ slice_index_or sets n other → other ≢ set
others_differ set sets n other c lt is = λ e. differs set sets n other c lt is (sym e)

held : (set : List Token) (sets : Sets) → contains (slice_cmp token_cmp) set sets ≡ true → list_any (λ t. is_within token_cmp t set) sets ≡ true
held set [] c = absurd (cc)
held set (s ∷ sets) c =
    elim (eq_by_cmp (slice_cmp token_cmp) set s) as (λ b. eq_by_cmp (slice_cmp token_cmp) set s ≡ b → (b || contains (slice_cmp token_cmp) set sets) ≡ true → (is_within token_cmp s set || list_any (λ t. is_within token_cmp t set) sets) ≡ true) [
      | true ↦ λ e h.
          let is : set ≡ s = all_same set s (equal (slice_cmp token_cmp set s) (subst T (sym e) tt)) in
          ap (λ b. b || list_any (λ t. is_within token_cmp t set) sets) (subst (λ t. is_within token_cmp t set ≡ true) is (all_own token_cmp token_cmp_total token_cmp-exact set))
      | false ↦ λ e h. ap (λ b. is_within token_cmp s set || b) (held set sets h) ∙ or_true (is_within token_cmp s set)
    ] refl c
  where
    or_true : (a : Bool) → (a || true) ≡ true
    or_true true = refl
    or_true false = refl

-- a set that is there is not put there again
pub with_held : (set : List Token) (sets : Sets) → contains (slice_cmp token_cmp) set sets ≡ true → sets ≡ with_set token_cmp set sets
with_held set sets c = sym (ap (λ b. cond b sets (placed (slice_cmp token_cmp) set (filter (λ t. not (is_within token_cmp set t)) sets))) (held set sets c))

pub rising_kept : (p : List Token → Bool) (sets : Sets) → IsRising (slice_cmp token_cmp) sets → IsRising (slice_cmp token_cmp) (filter p sets)
rising_kept = rising_filter (slice_cmp token_cmp) all_total all_same

pub rising_with : (set : List Token) (sets : Sets) → IsRising (slice_cmp token_cmp) sets → IsRising (slice_cmp token_cmp) (with_set token_cmp set sets)
rising_with set sets h =
    elim (list_any (λ t. is_within token_cmp t set) sets) as (λ b. IsRising (slice_cmp token_cmp) (cond b sets (placed (slice_cmp token_cmp) set (filter (λ t. not (is_within token_cmp set t)) sets)))) [
      | true ↦ h
      | false ↦ rising_placed (slice_cmp token_cmp) all_total all_same set (filter (λ t. not (is_within token_cmp set t)) sets) (rising_kept (λ t. not (is_within token_cmp set t)) sets h)
    ]

pub rising_row : (s : List Token) (ts sets : Sets) → IsRising (slice_cmp token_cmp) sets → IsRising (slice_cmp token_cmp) (with_row token_cmp s ts sets)
rising_row s [] sets h = h
rising_row s (t ∷ ts) sets h = rising_row s ts (with_set token_cmp (set_of token_cmp (s ++ t)) sets) (rising_with (set_of token_cmp (s ++ t)) sets h)

pub ruleset sets_searched = (set_within, set_after, set_before)

pub ruleset among = (set_within, set_absent, set_there)

pub ruleset token_places = (token_within, token_equal, token_inside, token_end)

pub ruleset set_places = (set_within, set_equal, set_inside, set_end)
