-- Of equal items the first: what is left of a list when the others go, by going through it, or through what it is when it is sorted.
use Rattle.std.proofs.Common.{◌≡◌, ◌⊎◌, inl, inr, Bool, true, false, cond, List, [], ◌∷◌, ◌++◌, map, Option, None, Some, refl, sym, ap, ◌∙◌}
use Rattle.std.specs.Prelude.{◌&&◌, ◌||◌, filter, not}
use Rattle.std.specs.Cmp.{IsTotalOrder}
use Rattle.std.specs.List.{AllByRecursion, list_any}
use Rattle.std.specs.Ordering.{is_eq, is_le, ordering_reverse}
use Rattle.std.specs.declared.cmp.Ordering.{Ordering}
use Rattle.std.specs.declared.cmp.Ordering.TheVariants.{Less, Equal, Greater}
use Rattle.gp_base.specs.Order.{insert_sorted, sorted_by}
use Rattle.gp_base.proofs.OrderLemmas.{equal_from_is_eq}
use Rattle.gp_base.proofs.SmallLemmas.{and_none, and_nothing, filter-append}

module _ {X : Type 0} (cmp : X → X → Ordering) (total : IsTotalOrder cmp) where
  abbrev pub differs : X → X → Bool
  differs x y = not (is_eq (cmp x y))

  -- each item that is equal to none before it
  abbrev pub once : List X → List X
  once [] = []
  once (x ∷ xs) = x ∷ filter (differs x) (once xs)

  -- whether an item is equal to the one before it, if there is one
  abbrev pub again : Option X → X → Bool
  again None y = false
  again (Some x) y = is_eq (cmp x y)

  -- each item that is not equal to the one before it; the first is behind this one
  abbrev pub adjacent : Option X → List X → List X
  adjacent last [] = []
  adjacent last (x ∷ xs) = (cond (again last x) [] (x ∷ [])) ++ adjacent (Some x) xs

  -- ---- order

  untrue : {P : Type 0} → false ≡ true → P
  untrue is = absurd cc

  turned-less : (x y : X) → cmp x y ≡ Greater → cmp y x ≡ Less
  turned-less x y is = total.antisymm y x ∙ ap ordering_reverse is

  -- of an equal item the same is true
  same-right : (x y z : X) → cmp y z ≡ Equal → cmp x y ≡ cmp x z
  same-right x y z is = total.antisymm x y ∙ ap ordering_reverse (total.congr y z x is) ∙ sym (total.antisymm x z)

  pub le-through : (x y z : X) → is_le (cmp x y) ≡ true → is_le (cmp y z) ≡ true → is_le (cmp x z) ≡ true
  le-through x y z first second = by (cmp x y) (cmp y z) refl refl first second
    where
      by : (o u : Ordering) → cmp x y ≡ o → cmp y z ≡ u → is_le o ≡ true → is_le u ≡ true → is_le (cmp x z) ≡ true
      by Greater u is own w v = untrue w
      by Equal u is own w v = ap is_le (total.congr x y z is ∙ own) ∙ v
      by Less Greater is own w v = untrue v
      by Less Equal is own w v = ap is_le (sym (same-right x y z own) ∙ is)
      by Less Less is own w v = ap is_le (total.trans x y z is own)

  less-through : (x y z : X) → cmp x y ≡ Less → is_le (cmp y z) ≡ true → cmp x z ≡ Less
  less-through x y z less within = by (cmp y z) refl within
    where
      by : (o : Ordering) → cmp y z ≡ o → is_le o ≡ true → cmp x z ≡ Less
      by Less is w = total.trans x y z less is
      by Equal is w = sym (same-right x y z is) ∙ less
      by Greater is w = untrue w

  abbrev IsBelow : X → List X → Type 0
  IsBelow x xs = AllByRecursion (λ y. is_le (cmp x y) ≡ true) xs

  abbrev Ascends : List X → Type 0
  Ascends [] = Unit {0}
  Ascends (x ∷ xs) = IsBelow x xs × Ascends xs

  below-through : (x y : X) (xs : List X) → is_le (cmp x y) ≡ true → IsBelow y xs → IsBelow x xs
  below-through x y [] first all = tt
  below-through x y (z ∷ xs) first all = (le-through x y z first all.0, below-through x y xs first all.1)

  below-kept : (p : X → Bool) (x : X) (xs : List X) → IsBelow x xs → IsBelow x (filter p xs)
  below-kept p x [] all = tt
  below-kept p x (y ∷ xs) all =
      elim (p y) as (λ b. IsBelow x (cond b (y ∷ filter p xs) (filter p xs))) [ true ↦ (all.0, below-kept p x xs all.1) | false ↦ below-kept p x xs all.1 ]

  not-le : (x y : X) → is_le (cmp x y) ≡ false → is_le (cmp y x) ≡ true
  not-le x y is = by (cmp x y) refl is
    where
      by : (o : Ordering) → cmp x y ≡ o → is_le o ≡ false → is_le (cmp y x) ≡ true
      by Less own w = absurd cc
      by Equal own w = absurd cc
      by Greater own w = ap is_le (turned-less x y own)

  below-inserted : (x item : X) (xs : List X) → is_le (cmp x item) ≡ true → IsBelow x xs → IsBelow x (insert_sorted cmp item xs)
  below-inserted x item [] first all = (first, tt)
  below-inserted x item (y ∷ xs) first all =
      elim (is_le (cmp item y)) as (λ b. IsBelow x (cond b (item ∷ y ∷ xs) (y ∷ insert_sorted cmp item xs))) [
        | true ↦ (first, all)
        | false ↦ (all.0, below-inserted x item xs first all.1)
      ]

  ascends-inserted : (item : X) (xs : List X) → Ascends xs → Ascends (insert_sorted cmp item xs)
  ascends-inserted item [] up = (tt, tt)
  ascends-inserted item (y ∷ xs) up =
      elim (is_le (cmp item y)) as (λ b. is_le (cmp item y) ≡ b → Ascends (cond b (item ∷ y ∷ xs) (y ∷ insert_sorted cmp item xs))) [
        | true ↦ λ is. ((is, below-through item y xs is up.0), up)
        | false ↦ λ is. (below-inserted y item xs (not-le item y is) up.0, ascends-inserted item xs up.1)
      ] refl

  pub ascends-sorted : (xs : List X) → Ascends (sorted_by cmp xs)
  ascends-sorted [] = tt
  ascends-sorted (x ∷ xs) = ascends-inserted x (sorted_by cmp xs) (ascends-sorted xs)

  -- an item that is below all is inserted before them
  inserted-first : (x : X) (xs : List X) → IsBelow x xs → insert_sorted cmp x xs ≡ x ∷ xs
  inserted-first x [] all = refl
  inserted-first x (y ∷ xs) all = ap (λ b. cond b (x ∷ y ∷ xs) (y ∷ insert_sorted cmp x xs)) all.0

  -- ---- tests

  -- a test on what is inserted
  kept-inserted : (p : X → Bool) (x : X) (xs : List X) → Ascends xs → p x ≡ true → filter p (insert_sorted cmp x xs) ≡ insert_sorted cmp x (filter p xs)
  kept-inserted p x [] up own = ap (λ b. cond b (x ∷ []) []) own
  kept-inserted p x (y ∷ xs) up own =
      elim (is_le (cmp x y)) as (λ b. is_le (cmp x y) ≡ b → filter p (cond b (x ∷ y ∷ xs) (y ∷ insert_sorted cmp x xs)) ≡ insert_sorted cmp x (cond (p y) (y ∷ filter p xs) (filter p xs))) [
        | true ↦ λ is.
            ap (λ b. cond b (x ∷ filter p (y ∷ xs)) (filter p (y ∷ xs))) own
            ∙ sym (inserted-first x (filter p (y ∷ xs)) (below-kept p x (y ∷ xs) (is, below-through x y xs is up.0)))
        | false ↦ λ is.
            elim (p y) as (λ c. cond c (y ∷ filter p (insert_sorted cmp x xs)) (filter p (insert_sorted cmp x xs)) ≡ insert_sorted cmp x (cond c (y ∷ filter p xs) (filter p xs))) [
              | true ↦ ap (λ (rest : List X). y ∷ rest) (kept-inserted p x xs up.1 own) ∙ ap (λ b. cond b (x ∷ y ∷ filter p xs) (y ∷ insert_sorted cmp x (filter p xs))) (sym is)
              | false ↦ kept-inserted p x xs up.1 own
            ]
      ] refl

  dropped-inserted : (p : X → Bool) (x : X) (xs : List X) → p x ≡ false → filter p (insert_sorted cmp x xs) ≡ filter p xs
  dropped-inserted p x [] own = ap (λ b. cond b (x ∷ []) []) own
  dropped-inserted p x (y ∷ xs) own =
      elim (is_le (cmp x y)) as (λ b. filter p (cond b (x ∷ y ∷ xs) (y ∷ insert_sorted cmp x xs)) ≡ filter p (y ∷ xs)) [
        | true ↦ ap (λ b. cond b (x ∷ filter p (y ∷ xs)) (filter p (y ∷ xs))) own
        | false ↦ ap (λ (rest : List X). cond (p y) (y ∷ rest) rest) (dropped-inserted p x xs own)
      ]

  pub kept-sorted : (p : X → Bool) (xs : List X) → filter p (sorted_by cmp xs) ≡ sorted_by cmp (filter p xs)
  kept-sorted p [] = refl
  kept-sorted p (x ∷ xs) =
      elim (p x) as (λ b. p x ≡ b → filter p (insert_sorted cmp x (sorted_by cmp xs)) ≡ sorted_by cmp (cond b (x ∷ filter p xs) (filter p xs))) [
        | true ↦ λ own. kept-inserted p x (sorted_by cmp xs) (ascends-sorted xs) own ∙ ap (insert_sorted cmp x) (kept-sorted p xs)
        | false ↦ λ own. dropped-inserted p x (sorted_by cmp xs) own ∙ kept-sorted p xs
      ] refl

  either-order : (p q : X → Bool) (xs : List X) → filter p (filter q xs) ≡ filter q (filter p xs)
  either-order p q [] = refl
  either-order p q (x ∷ xs) =
      elim (p x) as (λ b. p x ≡ b → filter p (cond (q x) (x ∷ filter q xs) (filter q xs)) ≡ filter q (cond b (x ∷ filter p xs) (filter p xs))) [
        | true ↦ λ own. elim (q x) as (λ c. filter p (cond c (x ∷ filter q xs) (filter q xs)) ≡ cond c (x ∷ filter q (filter p xs)) (filter q (filter p xs))) [
          | true ↦ ap (λ b. cond b (x ∷ filter p (filter q xs)) (filter p (filter q xs))) own ∙ ap (λ (rest : List X). x ∷ rest) (either-order p q xs)
          | false ↦ either-order p q xs
        ]
        | false ↦ λ own. elim (q x) as (λ c. filter p (cond c (x ∷ filter q xs) (filter q xs)) ≡ filter q (filter p xs)) [
          | true ↦ ap (λ b. cond b (x ∷ filter p (filter q xs)) (filter p (filter q xs))) own ∙ either-order p q xs
          | false ↦ either-order p q xs
        ]
      ] refl

  kept-twice : (p : X → Bool) (xs : List X) → filter p (filter p xs) ≡ filter p xs
  kept-twice p [] = refl
  kept-twice p (x ∷ xs) =
      elim (p x) as (λ b. p x ≡ b → filter p (cond b (x ∷ filter p xs) (filter p xs)) ≡ cond b (x ∷ filter p xs) (filter p xs)) [
        | true ↦ λ own. ap (λ b. cond b (x ∷ filter p (filter p xs)) (filter p (filter p xs))) own ∙ ap (λ (rest : List X). x ∷ rest) (kept-twice p xs)
        | false ↦ λ own. kept-twice p xs
      ] refl

  -- equal items differ from the same ones
  same-differs : (x y : X) → cmp x y ≡ Equal → (xs : List X) → filter (differs x) xs ≡ filter (differs y) xs
  same-differs x y is [] = refl
  same-differs x y is (z ∷ xs) =
      (λ i. cond (not (is_eq (total.congr x y z is i))) (z ∷ same-differs x y is xs i) (same-differs x y is xs i))

  -- none differs from an item that is before all
  all-differ : (x : X) (xs : List X) → AllByRecursion (λ y. cmp x y ≡ Less) xs → filter (differs x) xs ≡ xs
  all-differ x [] all = refl
  all-differ x (y ∷ xs) all = ap (λ (o : Ordering). cond (not (is_eq o)) (y ∷ filter (differs x) xs) (filter (differs x) xs)) all.0 ∙ ap (λ (rest : List X). y ∷ rest) (all-differ x xs all.1)

  before-all : (x y : X) (xs : List X) → cmp x y ≡ Less → IsBelow y xs → AllByRecursion (λ z. cmp x z ≡ Less) xs
  before-all x y [] less all = tt
  before-all x y (z ∷ xs) less all = (less-through x y z less all.0, before-all x y xs less all.1)

  -- ---- sorted items

  kept-adjacent : (P : X → Type 0) (last : Option X) (xs : List X) → AllByRecursion P xs → AllByRecursion P (adjacent last xs)
  kept-adjacent P last [] all = tt
  kept-adjacent P last (x ∷ xs) all =
      elim (again last x) as (λ b. AllByRecursion P (cond b [] (x ∷ []) ++ adjacent (Some x) xs)) [
        | true ↦ kept-adjacent P (Some x) xs all.1
        | false ↦ (all.0, kept-adjacent P (Some x) xs all.1)
      ]

  -- behind an item that is below all, those that differ from it
  behind : (x : X) (xs : List X) → IsBelow x xs → Ascends xs → adjacent (Some x) xs ≡ filter (differs x) (adjacent None xs)
  behind x [] below up = refl
  behind x (y ∷ xs) below up = by (behind y xs up.0 up.1) (cmp x y) refl below.0
    where
      by : adjacent (Some y) xs ≡ filter (differs y) (adjacent None xs) → (o : Ordering) → cmp x y ≡ o → is_le o ≡ true
          → cond (is_eq o) [] (y ∷ []) ++ adjacent (Some y) xs ≡ cond (not (is_eq o)) (y ∷ filter (differs x) (adjacent (Some y) xs)) (filter (differs x) (adjacent (Some y) xs))
      by rest Greater is w = untrue w
      by rest Less is w =
          ap (λ (others : List X). y ∷ others) (sym (all-differ x (adjacent (Some y) xs) (kept-adjacent (λ z. cmp x z ≡ Less) (Some y) xs (before-all x y xs is up.0))))
      by rest Equal is w =
          rest ∙ sym (kept-twice (differs y) (adjacent None xs)) ∙ ap (filter (differs y)) (sym rest) ∙ sym (same-differs x y is (adjacent (Some y) xs))

  below-adjacent : (x : X) (last : Option X) (xs : List X) → IsBelow x xs → IsBelow x (adjacent last xs)
  below-adjacent x last xs all = kept-adjacent (λ y. is_le (cmp x y) ≡ true) last xs all

  ascends-adjacent : (last : Option X) (xs : List X) → Ascends xs → Ascends (adjacent last xs)
  ascends-adjacent last [] up = tt
  ascends-adjacent last (x ∷ xs) up =
      elim (again last x) as (λ b. Ascends (cond b [] (x ∷ []) ++ adjacent (Some x) xs)) [
        | true ↦ ascends-adjacent (Some x) xs up.1
        | false ↦ (below-adjacent x (Some x) xs up.0, ascends-adjacent (Some x) xs up.1)
      ]

  ascends-kept : (p : X → Bool) (xs : List X) → Ascends xs → Ascends (filter p xs)
  ascends-kept p [] up = tt
  ascends-kept p (x ∷ xs) up =
      elim (p x) as (λ b. Ascends (cond b (x ∷ filter p xs) (filter p xs))) [ true ↦ (below-kept p x xs up.0, ascends-kept p xs up.1) | false ↦ ascends-kept p xs up.1 ]

  -- one more item
  adjacent-inserted : (x : X) (xs : List X) → Ascends xs → adjacent None (insert_sorted cmp x xs) ≡ insert_sorted cmp x (filter (differs x) (adjacent None xs))
  adjacent-inserted x [] up = refl
  adjacent-inserted x (y ∷ xs) up =
      elim (is_le (cmp x y)) as (λ b. is_le (cmp x y) ≡ b → adjacent None (cond b (x ∷ y ∷ xs) (y ∷ insert_sorted cmp x xs)) ≡ insert_sorted cmp x (filter (differs x) (y ∷ adjacent (Some y) xs))) [
        | true ↦ λ is.
            let below : IsBelow x (y ∷ xs) = (is, below-through x y xs is up.0) in
            ap (λ (rest : List X). x ∷ rest) (behind x (y ∷ xs) below up)
            ∙ sym (inserted-first x (filter (differs x) (adjacent None (y ∷ xs))) (below-kept (differs x) x (adjacent None (y ∷ xs)) (below-adjacent x None (y ∷ xs) below)))
        | false ↦ λ is. beyond (adjacent-inserted x xs up.1) is
      ] refl
    where
      -- the item is behind y
      greater : is_le (cmp x y) ≡ false → cmp x y ≡ Greater
      greater is = by (cmp x y) refl is
        where
          by : (o : Ordering) → cmp x y ≡ o → is_le o ≡ false → cmp x y ≡ Greater
          by Less own w = absurd cc
          by Equal own w = absurd cc
          by Greater own w = own

      beyond : adjacent None (insert_sorted cmp x xs) ≡ insert_sorted cmp x (filter (differs x) (adjacent None xs)) → is_le (cmp x y) ≡ false → y ∷ adjacent (Some y) (insert_sorted cmp x xs) ≡ insert_sorted cmp x (filter (differs x) (y ∷ adjacent (Some y) xs))
      beyond rest is =
          let less : cmp y x ≡ Less = turned-less x y (greater is) in
          ap (λ (others : List X). y ∷ others)
          (behind y (insert_sorted cmp x xs) (below-inserted y x xs (ap is_le less) up.0) (ascends-inserted x xs up.1)
          ∙ ap (filter (differs y)) rest
          ∙ kept-inserted (differs y) x (filter (differs x) (adjacent None xs)) (ascends-kept (differs x) (adjacent None xs) (ascends-adjacent None xs up.1)) (ap (λ (o : Ordering). not (is_eq o)) less)
          ∙ ap (insert_sorted cmp x) (either-order (differs y) (differs x) (adjacent None xs) ∙ ap (filter (differs x)) (sym (behind y xs up.0 up.1))))
          ∙ ap (λ b. cond b (x ∷ y ∷ filter (differs x) (adjacent (Some y) xs)) (y ∷ insert_sorted cmp x (filter (differs x) (adjacent (Some y) xs)))) (sym is)
          ∙ ap (λ (o : Ordering). insert_sorted cmp x (cond (not (is_eq o)) (y ∷ filter (differs x) (adjacent (Some y) xs)) (filter (differs x) (adjacent (Some y) xs)))) (sym (greater is))

  -- the first of equal items is in front when they are sorted
  pub once-sorted : (xs : List X) → adjacent None (sorted_by cmp xs) ≡ sorted_by cmp (once xs)
  once-sorted [] = refl
  once-sorted (x ∷ xs) =
      adjacent-inserted x (sorted_by cmp xs) (ascends-sorted xs)
      ∙ ap (insert_sorted cmp x) (ap (filter (differs x)) (once-sorted xs) ∙ kept-sorted (differs x) (once xs))

  -- ---- tests and maps

  kept-all : (P : X → Type 0) (p : X → Bool) (xs : List X) → AllByRecursion P xs → AllByRecursion P (filter p xs)
  kept-all P p [] all = tt
  kept-all P p (x ∷ xs) all =
      elim (p x) as (λ b. AllByRecursion P (cond b (x ∷ filter p xs) (filter p xs))) [ true ↦ (all.0, kept-all P p xs all.1) | false ↦ kept-all P p xs all.1 ]

  once-all : (P : X → Type 0) (xs : List X) → AllByRecursion P xs → AllByRecursion P (once xs)
  once-all P [] all = tt
  once-all P (x ∷ xs) all = (all.0, kept-all P (differs x) (once xs) (once-all P xs all.1))

  -- of equal items a later one passes only where the first does
  abbrev pub PassesFirst : (X → Bool) → List X → Type 0
  PassesFirst p [] = Unit {0}
  PassesFirst p (x ∷ xs) = AllByRecursion (λ y. cmp x y ≡ Equal → p y ≡ true → p x ≡ true) xs × PassesFirst p xs

  no-more-kept : (p q : X → Bool) (xs : List X) → AllByRecursion (λ x. p x ≡ true → q x ≡ true) xs → filter p (filter q xs) ≡ filter p xs
  no-more-kept p q [] all = refl
  no-more-kept p q (x ∷ xs) all =
      elim (p x) as (λ b. p x ≡ b → filter p (cond (q x) (x ∷ filter q xs) (filter q xs)) ≡ cond b (x ∷ filter p xs) (filter p xs)) [
        | true ↦ λ own.
            ap (λ c. filter p (cond c (x ∷ filter q xs) (filter q xs))) (all.0 own)
            ∙ ap (λ c. cond c (x ∷ filter p (filter q xs)) (filter p (filter q xs))) own
            ∙ ap (λ (rest : List X). x ∷ rest) (no-more-kept p q xs all.1)
        | false ↦ λ own. elim (q x) as (λ c. filter p (cond c (x ∷ filter q xs) (filter q xs)) ≡ filter p xs) [
          | true ↦ ap (λ c. cond c (x ∷ filter p (filter q xs)) (filter p (filter q xs))) own ∙ no-more-kept p q xs all.1
          | false ↦ no-more-kept p q xs all.1
        ]
      ] refl

  pub once-kept : (p : X → Bool) (xs : List X) → PassesFirst p xs → once (filter p xs) ≡ filter p (once xs)
  once-kept p [] first = refl
  once-kept p (x ∷ xs) first =
      elim (p x) as (λ b. p x ≡ b → once (cond b (x ∷ filter p xs) (filter p xs)) ≡ cond b (x ∷ filter p (filter (differs x) (once xs))) (filter p (filter (differs x) (once xs)))) [
        | true ↦ λ own. ap (λ (rest : List X). x ∷ filter (differs x) rest) (once-kept p xs first.1) ∙ ap (λ (rest : List X). x ∷ rest) (either-order (differs x) p (once xs))
        | false ↦ λ own. once-kept p xs first.1 ∙ sym (no-more-kept p (differs x) (once xs) (once-all (λ y. p y ≡ true → differs x y ≡ true) xs (unlike own xs first.0)))
      ] refl
    where
      unlike : p x ≡ false → (ys : List X) → AllByRecursion (λ y. cmp x y ≡ Equal → p y ≡ true → p x ≡ true) ys → AllByRecursion (λ y. p y ≡ true → differs x y ≡ true) ys
      unlike own [] all = tt
      unlike own (y ∷ ys) all = (λ passes. by (cmp x y) refl passes, unlike own ys all.1)
        where
          by : (o : Ordering) → cmp x y ≡ o → p y ≡ true → not (is_eq o) ≡ true
          by Less is passes = refl
          by Greater is passes = refl
          by Equal is passes = untrue (sym own ∙ all.0 is passes)

  -- ---- items that were there before

  -- an item is equal to one of some
  abbrev pub IsAmong : X → List X → Type 0
  IsAmong x [] = ⊥
  IsAmong x (y ∷ ys) = (cmp y x ≡ Equal) ⊎ IsAmong x ys

  dropped : (z : X) (zs : List X) (x : X) (ys : List X) → cmp z x ≡ Equal → filter (differs z) (once (zs ++ x ∷ ys)) ≡ filter (differs z) (once (zs ++ ys))
  dropped z [] x ys is =
      ap (λ (o : Ordering). cond (not (is_eq o)) (x ∷ filter (differs z) (filter (differs x) (once ys))) (filter (differs z) (filter (differs x) (once ys)))) is
      ∙ ap (filter (differs z)) (sym (same-differs z x is (once ys)))
      ∙ kept-twice (differs z) (once ys)
  dropped z (w ∷ zs) x ys is =
      ap (λ (rest : List X). cond (differs z w) (w ∷ rest) rest)
      (either-order (differs z) (differs w) (once (zs ++ x ∷ ys)) ∙ ap (filter (differs w)) (dropped z zs x ys is) ∙ either-order (differs w) (differs z) (once (zs ++ ys)))

  -- one that is among those before it changes nothing
  once-without : (xs : List X) (x : X) (ys : List X) → IsAmong x xs → once (xs ++ x ∷ ys) ≡ once (xs ++ ys)
  once-without [] x ys among = absurd among
  once-without (z ∷ zs) x ys (inl is) = ap (λ (rest : List X). z ∷ rest) (dropped z zs x ys is)
  once-without (z ∷ zs) x ys (inr among) = ap (λ (rest : List X). z ∷ filter (differs z) rest) (once-without zs x ys among)

  -- nor do more of them
  pub once-without-all : (xs more ys : List X) → AllByRecursion (λ x. IsAmong x xs) more → once (xs ++ (more ++ ys)) ≡ once (xs ++ ys)
  once-without-all xs [] ys all = refl
  once-without-all xs (x ∷ more) ys all = once-without xs x (more ++ ys) all.0 ∙ once-without-all xs more ys all.1

-- items of another kind with the same order
module _ {X Y : Type 0} (cmp : X → X → Ordering) (other : Y → Y → Ordering) (f : X → Y) (agree : (x y : X) → other (f x) (f y) ≡ cmp x y) where
  differs-map : (x : X) (xs : List X) → filter (λ y. not (is_eq (other (f x) y))) (map f xs) ≡ map f (filter (λ y. not (is_eq (cmp x y))) xs)
  differs-map x [] = refl
  differs-map x (y ∷ xs) =
      ap (λ (o : Ordering). cond (not (is_eq o)) (f y ∷ filter (λ z. not (is_eq (other (f x) z))) (map f xs)) (filter (λ z. not (is_eq (other (f x) z))) (map f xs))) (agree x y)
      ∙ elim (is_eq (cmp x y)) as (λ b. cond (not b) (f y ∷ filter (λ z. not (is_eq (other (f x) z))) (map f xs)) (filter (λ z. not (is_eq (other (f x) z))) (map f xs))
      ≡ map f (cond (not b) (y ∷ filter (λ z. not (is_eq (cmp x z))) xs) (filter (λ z. not (is_eq (cmp x z))) xs))) [
        | true ↦ differs-map x xs
        | false ↦ ap (λ (rest : List Y). f y ∷ rest) (differs-map x xs)
      ]

  pub once-map : (total : IsTotalOrder cmp) (also : IsTotalOrder other) (xs : List X) → once other also (map f xs) ≡ map f (once cmp total xs)
  once-map total also [] = refl
  once-map total also (x ∷ xs) = ap (λ (rest : List Y). f x ∷ filter (λ y. not (is_eq (other (f x) y))) rest) (once-map total also xs) ∙ ap (λ (rest : List Y). f x ∷ rest) (differs-map x (once cmp total xs))

-- ---- lists one behind another

module _ {X : Type 0} (cmp : X → X → Ordering) (total : IsTotalOrder cmp) where
  -- whether an item is equal to one of some
  abbrev pub is-among : List X → X → Bool
  is-among xs y = list_any (λ x. is_eq (cmp x y)) xs

  abbrev pub is-new : List X → X → Bool
  is-new xs y = not (is-among xs y)

  twice-kept : (p q r : X → Bool) → ((x : X) → r x ≡ (p x && q x)) → (xs : List X) → filter p (filter q xs) ≡ filter r xs
  twice-kept p q r is [] = refl
  twice-kept p q r is (x ∷ xs) =
      elim (q x) as (λ b. q x ≡ b → filter p (cond b (x ∷ filter q xs) (filter q xs)) ≡ cond (r x) (x ∷ filter r xs) (filter r xs)) [
        | true ↦ λ own.
            ap (λ (rest : List X). cond (p x) (x ∷ rest) rest) (twice-kept p q r is xs)
            ∙ ap (λ b. cond b (x ∷ filter r xs) (filter r xs)) (sym (is x ∙ ap (λ b. p x && b) own ∙ and_nothing (p x)))
        | false ↦ λ own. twice-kept p q r is xs ∙ ap (λ b. cond b (x ∷ filter r xs) (filter r xs)) (sym (is x ∙ ap (λ b. p x && b) own ∙ and_none (p x)))
      ] refl

  not-either : (a b : Bool) → not (a || b) ≡ (not a && not b)
  not-either true b = refl
  not-either false b = refl

  pub once-append : (xs ys : List X) → once cmp total (xs ++ ys) ≡ once cmp total xs ++ filter (is-new xs) (once cmp total ys)
  once-append [] ys = all-kept (once cmp total ys)
    where
      all-kept : (zs : List X) → zs ≡ filter (is-new []) zs
      all-kept [] = refl
      all-kept (z ∷ zs) = ap (λ (rest : List X). z ∷ rest) (all-kept zs)
  once-append (x ∷ xs) ys =
      ap (λ (rest : List X). x ∷ rest)
      (ap (filter (differs cmp total x)) (once-append xs ys)
      ∙ filter-append (differs cmp total x) (once cmp total xs) (filter (is-new xs) (once cmp total ys))
      ∙ ap (λ (rest : List X). filter (differs cmp total x) (once cmp total xs) ++ rest)
      (twice-kept (differs cmp total x) (is-new xs) (is-new (x ∷ xs)) (λ y. not-either (is_eq (cmp x y)) (is-among xs y)) (once cmp total ys)))

  -- what is among them is among those that are left
  among-kept : (x y : X) (xs : List X) → is_eq (cmp x y) ≡ false → is-among (filter (differs cmp total x) xs) y ≡ is-among xs y
  among-kept x y [] apart = refl
  among-kept x y (z ∷ xs) apart =
      elim (is_eq (cmp x z)) as (λ b. is_eq (cmp x z) ≡ b → is-among (cond (not b) (z ∷ filter (differs cmp total x) xs) (filter (differs cmp total x) xs)) y ≡ (is_eq (cmp z y) || is-among xs y)) [
        | false ↦ λ own. ap (λ b. is_eq (cmp z y) || b) (among-kept x y xs apart)
        | true ↦ λ own.
            among-kept x y xs apart
            ∙ ap (λ b. b || is-among xs y) (sym (ap is_eq (sym (total.congr x z y (equal_from_is_eq (cmp x z) own))) ∙ apart))
      ] refl

  pub among-once : (xs : List X) (y : X) → is-among (once cmp total xs) y ≡ is-among xs y
  among-once [] y = refl
  among-once (x ∷ xs) y =
      elim (is_eq (cmp x y)) as (λ b. is_eq (cmp x y) ≡ b → (b || is-among (filter (differs cmp total x) (once cmp total xs)) y) ≡ (b || is-among xs y)) [
        | true ↦ λ own. refl
        | false ↦ λ own. among-kept x y (once cmp total xs) own ∙ among-once xs y
      ] refl
