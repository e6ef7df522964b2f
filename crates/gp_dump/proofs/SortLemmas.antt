-- Lemmas of the order of row lines. No two spans of a table tie, so there is one order of them: the spans at sorted places are the result of
-- insertion sort.
use Rattle.gp_dump.proofs.Prelude.{◌≡◌, ◌⊎◌, inl, inr, ℕ, zero, suc, ◌+◌, ◌<◌, ◌≤◌, true, false, cond, List, [], ◌∷◌, length, map, Option, Some, None, IsSomeAnd, refl, sym, ap, subst, ◌∙◌, arith, add-one, AllByRecursion, range_with_len, IsPermutation, IsSortedByKey, option_cmp, is_eq, is_le, nat_cmp, ordering_reverse, ordering_then, Ordering, Less, Equal, Greater, cases_Bool, false≢true, tied_itself, length-map, sum_by-cons, exact_unsigned, identity_cmp, same_identity, identity_cmp-exact, insert_sorted, sorted_by, Span, span_cmp, AreWhole, IsApart, IsEndAbove, NoOverlap, span_cmp_total, same-itself}
use Rattle.std.specs.List.{All, slice_get, sum_by}
use Rattle.std.specs.List.Sorted.{IsSorted}
use Rattle.std.specs.Cmp.{IsTotalOrder}
use Rattle.std.proofs.lemmas.Cmp.{upto}
use Rattle.std.proofs.lemmas.List.{get_or-map}
use Rattle.std.proofs.lemmas.List.Elements.{All-from_recursion, recursion_from_All}
use Rattle.std.proofs.lemmas.List.Sorted.{All-permutation, IsPermutation-cons, IsPermutation-map, IsPermutation-middle, IsPermutation-refl, IsPermutation-sym, IsPermutation-trans, sum_by-IsPermutation}
use Rattle.gp_versions.proofs.OrderLemmas.{places_total}
use Rattle.gp_base.proofs.OrderLemmas.{equal_from_is_eq, gt_from_le, le_from_gt, le_from_lt_turned, le_turned}
use Rattle.gp_versions.proofs.PlaceLemmas.{all-range}

-- ---- results of a comparison

less-or-tied : (o : Ordering) → is_le o ≡ true → (o ≡ Less) ⊎ (is_eq o ≡ true)
less-or-tied Less e = inl refl
less-or-tied Equal e = inr refl
less-or-tied Greater e = absurd (false≢true e)

less-greater : (o : Ordering) → o ≡ Less → ordering_reverse o ≡ Less → ⊥
less-greater o e f = let g : Greater ≡ Less = ap ordering_reverse (sym e) ∙ f in cc

-- ---- elements

abbrev IsIn : {T : Type 0} → T → List T → Type 0
IsIn z [] = ⊥
IsIn z (x ∷ xs) = (z ≡ x) ⊎ IsIn z xs

all-in : {T : Type 0} (xs zs : List T) → ((z : T) → IsIn z xs → IsIn z zs) → AllByRecursion (λ z. IsIn z zs) xs
all-in [] zs within = tt
all-in (x ∷ xs) zs within = (within x (inl refl), all-in xs zs (λ z is. within z (inr is)))

in-all : {T : Type 0} (z : T) (xs zs : List T) → AllByRecursion (λ x. IsIn x zs) xs → IsIn z xs → IsIn z zs
in-all z [] zs all is = absurd is
in-all z (x ∷ xs) zs all (inl e) = subst (λ y. IsIn y zs) (sym e) all.0
in-all z (x ∷ xs) zs all (inr is) = in-all z xs zs all.1 is

in-permutation : {T : Type 0} (z : T) (xs ys : List T) → IsPermutation xs ys → IsIn z ys → IsIn z xs
in-permutation z xs ys moved is =
    in-all z ys xs (recursion_from_All (λ y. IsIn y xs) ys (All-permutation (λ y. IsIn y xs) xs ys moved (All-from_recursion (λ y. IsIn y xs) xs (all-in xs xs (λ y within. within))))) is

-- ---- ascending lists without ties

module _ {T : Type 0} (cmp : T → T → Ordering) (total : IsTotalOrder cmp) where
  abbrev pub IsLowerBound : T → List T → Type 0
  IsLowerBound x [] = Unit {0}
  IsLowerBound x (y ∷ ys) = (is_le (cmp x y) ≡ true) × IsLowerBound x ys

  abbrev pub IsAscending : List T → Type 0
  IsAscending [] = Unit {0}
  IsAscending (x ∷ xs) = IsLowerBound x xs × IsAscending xs

  abbrev IsBelow : T → List T → Type 0
  IsBelow x [] = Unit {0}
  IsBelow x (y ∷ ys) = (cmp x y ≡ Less) × IsBelow x ys

  abbrev IsStrict : List T → Type 0
  IsStrict [] = Unit {0}
  IsStrict (x ∷ xs) = IsBelow x xs × IsStrict xs

  -- 1 where two items tie, and else 0: the sum over a list counts those that tie with an item
  abbrev tied : T → T → ℕ
  tied item other = cond (is_eq (cmp item other)) 1 0

  le-through : (x y z : T) → is_le (cmp x y) ≡ true → is_le (cmp y z) ≡ true → is_le (cmp x z) ≡ true
  le-through x y z first second = le_from_gt (cmp x z) (upto total x y z (gt_from_le (cmp x y) first) (gt_from_le (cmp y z) second))

  lower-through : (x y : T) (zs : List T) → is_le (cmp x y) ≡ true → IsLowerBound y zs → IsLowerBound x zs
  lower-through x y [] first all = tt
  lower-through x y (z ∷ zs) first all = (le-through x y z first all.0, lower-through x y zs first all.1)

  lower-insert : (x item : T) (ys : List T) → is_le (cmp x item) ≡ true → IsLowerBound x ys → IsLowerBound x (insert_sorted cmp item ys)
  lower-insert x item [] below all = (below, tt)
  lower-insert x item (y ∷ ys) below all =
      elim (is_le (cmp item y)) as (λ b. IsLowerBound x (cond b (item ∷ y ∷ ys) (y ∷ insert_sorted cmp item ys))) [
        | true ↦ (below, all)
        | false ↦ (all.0, lower-insert x item ys below all.1)
      ]

  ascending-insert : (item : T) (ys : List T) → IsAscending ys → IsAscending (insert_sorted cmp item ys)
  ascending-insert item [] ascending = (tt, tt)
  ascending-insert item (y ∷ ys) ascending =
      elim (is_le (cmp item y)) as (λ b. is_le (cmp item y) ≡ b → IsAscending (cond b (item ∷ y ∷ ys) (y ∷ insert_sorted cmp item ys))) [
        | true ↦ λ is. ((is, lower-through item y ys is ascending.0), ascending)
        | false ↦ λ is. (lower-insert y item ys (subst (λ o. is_le o ≡ true) (sym (total.antisymm y item)) (le_turned (cmp item y) is)) ascending.0, ascending-insert item ys ascending.1)
      ] refl

  ascending-sorted : (xs : List T) → IsAscending (sorted_by cmp xs)
  ascending-sorted [] = tt
  ascending-sorted (x ∷ xs) = ascending-insert x (sorted_by cmp xs) (ascending-sorted xs)

  permutation-insert : (x : T) (ys : List T) → IsPermutation (x ∷ ys) (insert_sorted cmp x ys)
  permutation-insert x [] = IsPermutation-refl (x ∷ [])
  permutation-insert x (y ∷ ys) =
      elim (is_le (cmp x y)) as (λ b. IsPermutation (x ∷ y ∷ ys) (cond b (x ∷ y ∷ ys) (y ∷ insert_sorted cmp x ys))) [
        | true ↦ IsPermutation-refl (x ∷ y ∷ ys)
        | false ↦ IsPermutation-trans (x ∷ y ∷ ys) (y ∷ x ∷ ys) (y ∷ insert_sorted cmp x ys) (IsPermutation-sym (y ∷ x ∷ ys) (x ∷ y ∷ ys) (IsPermutation-middle (y ∷ []) x ys)) (IsPermutation-cons y (x ∷ ys) (insert_sorted cmp x ys) (permutation-insert x ys))
      ]

  pub permutation-sorted : (xs : List T) → IsPermutation xs (sorted_by cmp xs)
  permutation-sorted [] = IsPermutation-refl []
  permutation-sorted (x ∷ xs) =
      IsPermutation-trans (x ∷ xs) (x ∷ sorted_by cmp xs) (sorted_by cmp (x ∷ xs)) (IsPermutation-cons x xs (sorted_by cmp xs) (permutation-sorted xs)) (permutation-insert x (sorted_by cmp xs))

  -- a list that is sorted by std's definition is ascending
  ascending-from-sorted : (xs : List T) → IsSorted cmp xs → IsAscending xs
  ascending-from-sorted [] sorted = tt
  ascending-from-sorted (x ∷ []) sorted = (tt, tt)
  ascending-from-sorted (x ∷ y ∷ ys) sorted =
      let first : is_le (cmp x y) ≡ true =
      subst (λ o. is_le o ≡ true) (sym (total.antisymm x y)) (le_from_lt_turned (cmp y x) (sorted 0 x (omega arith) (omega arith))) in
      let rest : IsAscending (y ∷ ys) = ascending-from-sorted (y ∷ ys) (λ k d low high. rw add-one (simp add-one at (sorted (suc k) d (omega arith) (omega arith)))) in
      ((first, lower-through x y ys first rest.0), rest)

  -- where no two items tie, an ascending list ascends strictly
  below-by : (x : T) (ys : List T) → IsLowerBound x ys → sum_by (tied x) ys ≡ 0 → IsBelow x ys
  below-by x [] lower none = tt
  below-by x (y ∷ ys) lower none =
      let sum = sum_by-cons (tied x) y ys in
      let rest : sum_by (tied x) ys ≡ 0 = omega (arith, none, sum) in
      let here : tied x y ≡ 0 = omega (arith, none, sum) in
      elim (less-or-tied (cmp x y) lower.0) [
        | inl less ↦ (less, below-by x ys lower.1 rest)
        | inr tie ↦ let f : 1 ≡ 0 = rw tie at here in absurd (omega (arith, f))
      ]

  strict-by : (xs : List T) → IsAscending xs → ((item : T) → sum_by (tied item) xs ≤ 1) → IsStrict xs
  strict-by [] ascending few = tt
  strict-by (x ∷ xs) ascending few =
      let itself : tied x x ≡ 1 = rw (tied_itself total x) refl in
      let none : sum_by (tied x) xs ≡ 0 = omega (arith, few x, sum_by-cons (tied x) x xs, itself) in
      (below-by x xs ascending.0 none, strict-by xs ascending.1 (λ item. omega (arith, few item, sum_by-cons (tied item) x xs)))

  below-in : (x z : T) (ys : List T) → IsBelow x ys → IsIn z ys → cmp x z ≡ Less
  below-in x z [] below is = absurd is
  below-in x z (y ∷ ys) below (inl e) = subst (λ w. cmp x w ≡ Less) (sym e) below.0
  below-in x z (y ∷ ys) below (inr is) = below-in x z ys below.1 is

  -- two strict lists with the same items have the same first item
  first-is : (x y : T) (xs ys : List T) → IsBelow x xs → IsBelow y ys → IsIn x (y ∷ ys) → IsIn y (x ∷ xs) → x ≡ y
  first-is x y xs ys lower upper (inl e) there = e
  first-is x y xs ys lower upper (inr is) (inl e) = sym e
  first-is x y xs ys lower upper (inr is) (inr there) =
      absurd (less-greater (cmp y x) (below-in y x ys upper is) (sym (total.antisymm x y) ∙ below-in x y xs lower there))

  not-below-itself : (x : T) → cmp x x ≡ Less → ⊥
  not-below-itself x less = let g : Less ≡ Equal = sym less ∙ tied_itself total x in cc

  rest-in : (x y z : T) (xs ys : List T) → x ≡ y → IsBelow x xs → IsIn z xs → IsIn z (y ∷ ys) → IsIn z ys
  rest-in x y z xs ys same below within (inl e) = absurd (not-below-itself z (subst (λ w. cmp w z ≡ Less) (same ∙ sym e) (below-in x z xs below within)))
  rest-in x y z xs ys same below within (inr is) = is

  -- strict lists with the same items are equal
  strict-same : (xs ys : List T) → IsStrict xs → IsStrict ys → ((z : T) → IsIn z xs → IsIn z ys) → ((z : T) → IsIn z ys → IsIn z xs) → xs ≡ ys
  strict-same [] [] left right one other = refl
  strict-same [] (y ∷ ys) left right one other = absurd (other y (inl refl))
  strict-same (x ∷ xs) [] left right one other = absurd (one x (inl refl))
  strict-same (x ∷ xs) (y ∷ ys) left right one other =
      let first : x ≡ y = first-is x y xs ys left.0 right.0 (one x (inl refl)) (other y (inl refl)) in
      let rest : xs ≡ ys =
      strict-same xs ys left.1 right.1 (λ z is. rest-in x y z xs ys first left.0 is (one z (inr is))) (λ z is. rest-in y x z ys xs (sym first) right.0 is (other z (inr is))) in
      cc

  -- without ties, a list has one ascending permutation
  ascending-unique : (xs ys : List T) → IsPermutation xs ys → IsAscending xs → IsAscending ys → ((item : T) → sum_by (tied item) xs ≤ 1) → ys ≡ xs
  ascending-unique xs ys moved up up' few =
      let few' : (item : T) → sum_by (tied item) ys ≤ 1 = λ item. subst (λ n. n ≤ 1) (sym (sum_by-IsPermutation (tied item) xs ys moved)) (few item) in
      strict-same ys xs (strict-by ys up' few') (strict-by xs up few) (λ z. in-permutation z xs ys moved) (λ z. in-permutation z ys xs (IsPermutation-sym xs ys moved))

-- ---- the spans of a table do not tie

then-parts : (o p : Ordering) → is_eq (ordering_then o p) ≡ true → (is_eq o ≡ true) × (is_eq p ≡ true)
then-parts Less p is = absurd (false≢true is)
then-parts Equal p is = (refl, is)
then-parts Greater p is = absurd (false≢true is)

tie-parts : (a b : Span) → is_eq (span_cmp a b) ≡ true → (a.id ≡ b.id) × (a.from ≡ b.from)
tie-parts a b is =
    let parts = then-parts (identity_cmp a.id b.id) (nat_cmp a.from b.from) is in
    (identity_cmp-exact a.id b.id (equal_from_is_eq (identity_cmp a.id b.id) parts.0), exact_unsigned a.from b.from (equal_from_is_eq (nat_cmp a.from b.from) parts.1))

ends-early : (from : ℕ) (to : Option ℕ) → IsEndAbove from to → IsSomeAnd to (λ end. end ≤ from) → ⊥
ends-early from None above some = some
ends-early from (Some to) above some = omega (arith, above, some)

-- of two spans that are apart, the second does not tie with what the first ties with
apart-untied : (s span other : Span) → is_eq (span_cmp s span) ≡ true → IsApart span other → IsEndAbove span.from span.to → is_eq (span_cmp s other) ≡ true → ⊥
apart-untied s span other is apart above tie =
    let a = tie-parts s span is in
    let b = tie-parts s other tie in
    let same : same_identity span.id other.id ≡ true = subst (λ id. same_identity span.id id ≡ true) (sym a.0 ∙ b.0) (same-itself span.id) in
    ends-early span.from span.to above (subst (λ n. IsSomeAnd span.to (λ end. end ≤ n)) (sym b.1 ∙ a.1) (apart same))

abbrev some_tied : Option Span → Option Span → ℕ
some_tied item other = cond (is_eq (option_cmp span_cmp item other)) 1 0

abbrev pub somes : List Span → List (Option Span)
somes spans = map (λ (span : Span). Some span) spans

none-behind : (s span : Span) (spans : List Span) → is_eq (span_cmp s span) ≡ true → AllByRecursion (IsApart span) spans → IsEndAbove span.from span.to → sum_by (some_tied (Some s)) (somes spans) ≡ 0
none-behind s span [] is apart above = refl
none-behind s span (other ∷ spans) is apart above =
    let sum = sum_by-cons (some_tied (Some s)) (Some other) (somes spans) in
    let rest = none-behind s span spans is apart.1 above in
    elim (cases_Bool (is_eq (span_cmp s other))) [
      | inl tie ↦ absurd (apart-untied s span other is apart.0 above tie)
      | inr untied ↦ let here : some_tied (Some s) (Some other) ≡ 0 = rw untied refl in omega (arith, sum, rest, here)
    ]

none-untied : (spans : List Span) → sum_by (some_tied None) (somes spans) ≡ 0
none-untied [] = refl
none-untied (span ∷ spans) =
    let sum = sum_by-cons (some_tied None) (Some span) (somes spans) in
    let here : some_tied None (Some span) ≡ 0 = refl in
    omega (arith, sum, here, none-untied spans)

few-tied : (s : Span) (spans : List Span) → NoOverlap spans → AreWhole spans → sum_by (some_tied (Some s)) (somes spans) ≤ 1
few-tied s [] apart are-whole = omega (arith)
few-tied s (span ∷ spans) apart are-whole =
    let sum = sum_by-cons (some_tied (Some s)) (Some span) (somes spans) in
    elim (cases_Bool (is_eq (span_cmp s span))) [
      | inl tie ↦
          let here : some_tied (Some s) (Some span) ≡ 1 = rw tie refl in
          omega (arith, sum, here, none-behind s span spans tie apart.0 are-whole.0)
      | inr untied ↦
          let here : some_tied (Some s) (Some span) ≡ 0 = rw untied refl in
          omega (arith, sum, here, few-tied s spans apart.1 are-whole.1)
    ]

few-by : (item : Option Span) (spans : List Span) → NoOverlap spans → AreWhole spans → sum_by (some_tied item) (somes spans) ≤ 1
few-by None spans apart are-whole = omega (arith, none-untied spans)
few-by (Some s) spans apart are-whole = few-tied s spans apart are-whole

-- ---- the spans at places

spans-behind : (all spans : List Span) (at : ℕ) → ((i : ℕ) → slice_get all (at + i) ≡ slice_get spans i) → map (slice_get all) (range_with_len at (length spans)) ≡ somes spans
spans-behind all [] at are = refl
spans-behind all (span ∷ spans) at are =
    let first : slice_get all at ≡ Some span = let e : at ≡ at + 0 = omega arith in ap (slice_get all) e ∙ are 0 in
    let rest = spans-behind all spans (at + 1) (λ i. let e : (at + 1) + i ≡ at + suc i = omega arith in ap (slice_get all) e ∙ are (suc i)) in
    cc

spans-at : (spans : List Span) → map (slice_get spans) (range_with_len 0 (length spans)) ≡ somes spans
spans-at spans = spans-behind spans spans 0 (λ i. let e : 0 + i ≡ i = omega arith in ap (slice_get spans) e)

keys-sorted : (spans : List Span) (places : List ℕ) → IsSortedByKey (slice_get spans) (option_cmp span_cmp) places → IsSorted (option_cmp span_cmp) (map (slice_get spans) places)
keys-sorted spans places sorted k d low within =
    let inside : k + 1 < length places = omega (arith, within, length-map places (slice_get spans)) in
    rw (get_or-map (slice_get spans) places (k + 1) 0 d inside, get_or-map (slice_get spans) places k 0 d (omega (arith, inside))) (sorted k 0 low inside)

somes-lower : (span : Span) (spans : List Span) → IsLowerBound span_cmp span_cmp_total span spans → IsLowerBound (option_cmp span_cmp) places_total (Some span) (somes spans)
somes-lower span [] lower = tt
somes-lower span (other ∷ spans) lower = (lower.0, somes-lower span spans lower.1)

somes-ascending : (spans : List Span) → IsAscending span_cmp span_cmp_total spans → IsAscending (option_cmp span_cmp) places_total (somes spans)
somes-ascending [] up = tt
somes-ascending (span ∷ spans) up = (somes-lower span spans up.0, somes-ascending spans up.1)

-- the spans at sorted places are the result of insertion sort
pub spans-in-order : (spans : List Span) (places : List ℕ) → NoOverlap spans → AreWhole spans → IsPermutation (range_with_len 0 (length spans)) places
    → IsSortedByKey (slice_get spans) (option_cmp span_cmp) places → map (slice_get spans) places ≡ somes (sorted_by span_cmp spans)
spans-in-order spans places apart are-whole moved sorted =
    let keys : List (Option Span) = map (slice_get spans) places in
    let due : List (Option Span) = somes (sorted_by span_cmp spans) in
    let from-spans : IsPermutation (somes spans) keys = subst (λ xs. IsPermutation xs keys) (spans-at spans) (IsPermutation-map (slice_get spans) (range_with_len 0 (length spans)) places moved) in
    let to-due : IsPermutation (somes spans) due = IsPermutation-map (λ (span : Span). Some span) spans (sorted_by span_cmp spans) (permutation-sorted span_cmp span_cmp_total spans) in
    let between : IsPermutation due keys = IsPermutation-trans due (somes spans) keys (IsPermutation-sym (somes spans) due to-due) from-spans in
    let few : (item : Option Span) → sum_by (some_tied item) due ≤ 1 = λ item. subst (λ n. n ≤ 1) (sym (sum_by-IsPermutation (some_tied item) (somes spans) due to-due)) (few-by item spans apart are-whole) in
    ascending-unique (option_cmp span_cmp) places_total due keys between
    (somes-ascending (sorted_by span_cmp spans) (ascending-sorted span_cmp span_cmp_total spans))
    (ascending-from-sorted (option_cmp span_cmp) places_total keys (keys-sorted spans places sorted))
    few

-- there is a span at each place
pub places-within : (spans : List Span) (places : List ℕ) → IsPermutation (range_with_len 0 (length spans)) places → All (λ place. place < length spans) places
places-within spans places moved =
    All-permutation (λ place. place < length spans) (range_with_len 0 (length spans)) places moved (All-from_recursion (λ place. place < length spans) (range_with_len 0 (length spans)) (all-range (length spans) 0 (length spans) (omega arith)))
