-- Sorting keeps the order of equal items, and of no others: items that differ may stand in any order before it.
use Rattle.std.proofs.Common.{◌≡◌, suc, Bool, true, false, cond, List, [], ◌∷◌, ◌++◌, length, refl, sym, ap, ◌∙◌}
use Rattle.std.specs.Prelude.{filter, not}
use Rattle.std.specs.Cmp.{IsTotalOrder}
use Rattle.std.specs.List.{AllByRecursion}
use Rattle.std.specs.Ordering.{is_eq, is_le, ordering_reverse}
use Rattle.std.specs.declared.cmp.Ordering.{Ordering}
use Rattle.std.specs.declared.cmp.Ordering.TheVariants.{Less, Equal, Greater}
use Rattle.std.proofs.lemmas.List.{append_assoc}
use Rattle.gp_base.proofs.Bags.{SameBag, first, none, swapped, through}
use Rattle.gp_base.specs.Order.{insert_sorted, sorted_by}
use Rattle.gp_ask.proofs.OnceLemmas.{differs, le-through, once}

-- what is said of each item
pub all-moved : {X : Type 0} (P : X → Type 0) {xs ys : List X} → SameBag xs ys → AllByRecursion P xs → AllByRecursion P ys
all-moved P none all = tt
all-moved P (first moved) all = (all.0, all-moved P moved all.1)
all-moved P swapped all = (all.1.0, (all.0, all.1.1))
all-moved P (through moved again) all = all-moved P again (all-moved P moved all)

module _ {X : Type 0} (cmp : X → X → Ordering) (total : IsTotalOrder cmp) where
  -- no two items are equal
  abbrev pub AreApart : List X → Type 0
  AreApart [] = Unit {0}
  AreApart (x ∷ xs) = AllByRecursion (λ y. is_eq (cmp x y) ≡ false) xs × AreApart xs

  turned-eq : (x y : X) → is_eq (cmp x y) ≡ false → is_eq (cmp y x) ≡ false
  turned-eq x y is = ap is_eq (total.antisymm y x) ∙ by (cmp x y) is
    where
      by : (o : Ordering) → is_eq o ≡ false → is_eq (ordering_reverse o) ≡ false
      by Less is = refl
      by Equal is = absurd cc
      by Greater is = refl

  pub apart-moved : {xs ys : List X} → SameBag xs ys → AreApart xs → AreApart ys
  apart-moved none apart = tt
  apart-moved (first {x = x} moved) apart = (all-moved (λ y. is_eq (cmp x y) ≡ false) moved apart.0, apart-moved moved apart.1)
  apart-moved (swapped {x = x} {y = y} {xs = xs}) apart = ((turned-eq x y apart.0.0, apart.1.0), (apart.0.1, apart.1.1))
  apart-moved (through moved again) apart = apart-moved again (apart-moved moved apart)

  -- one of two unequal items is before the other
  one-first : (x y : X) → is_eq (cmp x y) ≡ false → (b : Bool) → is_le (cmp x y) ≡ b → is_le (cmp y x) ≡ cond b false true
  one-first x y differ b is = ap is_le (total.antisymm y x) ∙ by (cmp x y) b differ is
    where
      by : (o : Ordering) (b : Bool) → is_eq o ≡ false → is_le o ≡ b → is_le (ordering_reverse o) ≡ cond b false true
      by Less true differ is = refl
      by Less false differ is = absurd cc
      by Equal b differ is = absurd cc
      by Greater true differ is = absurd cc
      by Greater false differ is = refl

  not-le : (x y : X) → is_le (cmp x y) ≡ false → is_le (cmp y x) ≡ true
  not-le x y is = ap is_le (total.antisymm y x) ∙ by (cmp x y) is
    where
      by : (o : Ordering) → is_le o ≡ false → is_le (ordering_reverse o) ≡ true
      by Less is = absurd cc
      by Equal is = absurd cc
      by Greater is = refl

  -- unequal items are inserted in either order
  insert-either : (x y : X) → is_eq (cmp x y) ≡ false → (xs : List X) → insert_sorted cmp x (insert_sorted cmp y xs) ≡ insert_sorted cmp y (insert_sorted cmp x xs)
  insert-either x y differ [] =
      elim (is_le (cmp x y)) as (λ b. is_le (cmp x y) ≡ b → cond b (x ∷ y ∷ []) (y ∷ x ∷ []) ≡ insert_sorted cmp y (x ∷ [])) [
        | true ↦ λ is. ap (λ c. cond c (y ∷ x ∷ []) (x ∷ y ∷ [])) (sym (one-first x y differ true is))
        | false ↦ λ is. ap (λ c. cond c (y ∷ x ∷ []) (x ∷ y ∷ [])) (sym (one-first x y differ false is))
      ] refl
  insert-either x y differ (z ∷ xs) = by (is_le (cmp x z)) (is_le (cmp y z)) refl refl (insert-either x y differ xs)
    where
      -- before the first item
      here : (b : Bool) → is_le (cmp x y) ≡ b → is_le (cmp x z) ≡ true → is_le (cmp y z) ≡ true
          → cond b (x ∷ y ∷ z ∷ xs) (y ∷ cond (is_le (cmp x z)) (x ∷ z ∷ xs) (z ∷ insert_sorted cmp x xs)) ≡ cond (is_le (cmp y x)) (y ∷ x ∷ z ∷ xs) (x ∷ cond (is_le (cmp y z)) (y ∷ z ∷ xs) (z ∷ insert_sorted cmp y xs))
      here true is one two =
          ap (λ c. x ∷ cond c (y ∷ z ∷ xs) (z ∷ insert_sorted cmp y xs)) (sym two)
          ∙ ap (λ c. cond c (y ∷ x ∷ z ∷ xs) (x ∷ cond (is_le (cmp y z)) (y ∷ z ∷ xs) (z ∷ insert_sorted cmp y xs))) (sym (one-first x y differ true is))
      here false is one two =
          ap (λ c. y ∷ cond c (x ∷ z ∷ xs) (z ∷ insert_sorted cmp x xs)) one
          ∙ ap (λ c. cond c (y ∷ x ∷ z ∷ xs) (x ∷ cond (is_le (cmp y z)) (y ∷ z ∷ xs) (z ∷ insert_sorted cmp y xs))) (sym (one-first x y differ false is))

      -- x is before z, and y behind it
      between : is_le (cmp x z) ≡ true → is_le (cmp y z) ≡ false → is_le (cmp x y) ≡ true
      between one two = le-through cmp total x z y one (not-le y z two)

      other : is_le (cmp x z) ≡ false → is_le (cmp y z) ≡ true → is_le (cmp y x) ≡ true
      other one two = le-through cmp total y z x two (not-le x z one)

      by : (b c : Bool) → is_le (cmp x z) ≡ b → is_le (cmp y z) ≡ c → insert_sorted cmp x (insert_sorted cmp y xs) ≡ insert_sorted cmp y (insert_sorted cmp x xs)
          → insert_sorted cmp x (cond c (y ∷ z ∷ xs) (z ∷ insert_sorted cmp y xs)) ≡ insert_sorted cmp y (cond b (x ∷ z ∷ xs) (z ∷ insert_sorted cmp x xs))
      by true true one two rest = here (is_le (cmp x y)) refl one two
      by true false one two rest =
          ap (λ c. cond c (x ∷ z ∷ insert_sorted cmp y xs) (z ∷ insert_sorted cmp x (insert_sorted cmp y xs))) one
          ∙ ap (λ c. x ∷ cond c (y ∷ z ∷ xs) (z ∷ insert_sorted cmp y xs)) (sym two)
          ∙ ap (λ c. cond c (y ∷ x ∷ z ∷ xs) (x ∷ cond (is_le (cmp y z)) (y ∷ z ∷ xs) (z ∷ insert_sorted cmp y xs))) (sym (one-first x y differ true (between one two)))
      by false true one two rest =
          let beyond : is_le (cmp x y) ≡ false = one-first y x (turned-eq x y differ) true (other one two) in
          ap (λ c. cond c (x ∷ y ∷ z ∷ xs) (y ∷ cond (is_le (cmp x z)) (x ∷ z ∷ xs) (z ∷ insert_sorted cmp x xs))) beyond
          ∙ ap (λ c. y ∷ cond c (x ∷ z ∷ xs) (z ∷ insert_sorted cmp x xs)) one
          ∙ ap (λ c. cond c (y ∷ z ∷ insert_sorted cmp x xs) (z ∷ insert_sorted cmp y (insert_sorted cmp x xs))) (sym two)
      by false false one two rest =
          ap (λ c. cond c (x ∷ z ∷ insert_sorted cmp y xs) (z ∷ insert_sorted cmp x (insert_sorted cmp y xs))) one
          ∙ ap (λ (others : List X). z ∷ others) rest
          ∙ ap (λ c. cond c (y ∷ z ∷ insert_sorted cmp x xs) (z ∷ insert_sorted cmp y (insert_sorted cmp x xs))) (sym two)

  -- unequal items in another order, with others behind them
  pub sorted-moved : {xs ys : List X} → SameBag xs ys → AreApart xs → (zs : List X) → sorted_by cmp (xs ++ zs) ≡ sorted_by cmp (ys ++ zs)
  sorted-moved none apart zs = refl
  sorted-moved (first {x = x} moved) apart zs = ap (insert_sorted cmp x) (sorted-moved moved apart.1 zs)
  sorted-moved (swapped {x = x} {y = y} {xs = xs}) apart zs = insert-either x y apart.0.0 (sorted_by cmp (xs ++ zs))
  sorted-moved (through moved again) apart zs = sorted-moved moved apart zs ∙ sorted-moved again (apart-moved moved apart) zs

  pub sorted-behind : (ws xs ys : List X) → sorted_by cmp xs ≡ sorted_by cmp ys → sorted_by cmp (ws ++ xs) ≡ sorted_by cmp (ws ++ ys)
  sorted-behind [] xs ys same = same
  sorted-behind (w ∷ ws) xs ys same = ap (insert_sorted cmp w) (sorted-behind ws xs ys same)

  -- lists that are the same once sorted, whatever stands behind them
  abbrev pub AreAlike : List X → List X → Type 0
  AreAlike xs ys = (zs : List X) → sorted_by cmp (xs ++ zs) ≡ sorted_by cmp (ys ++ zs)

  pub alike-append : (xs ys us vs : List X) → AreAlike xs ys → AreAlike us vs → AreAlike (xs ++ us) (ys ++ vs)
  alike-append xs ys us vs one two zs =
      ap (sorted_by cmp) (append_assoc xs us zs)
      ∙ one (us ++ zs)
      ∙ sorted-behind ys (us ++ zs) (vs ++ zs) (two zs)
      ∙ ap (sorted_by cmp) (sym (append_assoc ys vs zs))

  inserted-length : (x : X) (xs : List X) → length (insert_sorted cmp x xs) ≡ suc (length xs)
  inserted-length x [] = refl
  inserted-length x (y ∷ xs) =
      elim (is_le (cmp x y)) as (λ b. length (cond b (x ∷ y ∷ xs) (y ∷ insert_sorted cmp x xs)) ≡ suc (suc (length xs))) [ true ↦ refl | false ↦ ap suc (inserted-length x xs) ]

  pub sorted-length : (xs : List X) → length (sorted_by cmp xs) ≡ length xs
  sorted-length [] = refl
  sorted-length (x ∷ xs) = inserted-length x (sorted_by cmp xs) ∙ ap suc (sorted-length xs)

  -- different items are all left when equal ones go
  pub once-apart : (xs : List X) → AreApart xs → once cmp total xs ≡ xs
  once-apart [] apart = refl
  once-apart (x ∷ xs) apart = ap (λ (rest : List X). x ∷ filter (differs cmp total x) rest) (once-apart xs apart.1) ∙ ap (λ (rest : List X). x ∷ rest) (all-differ xs apart.0)
    where
      all-differ : (ys : List X) → AllByRecursion (λ y. is_eq (cmp x y) ≡ false) ys → filter (differs cmp total x) ys ≡ ys
      all-differ [] all = refl
      all-differ (y ∷ ys) all = ap (λ b. cond (not b) (y ∷ filter (differs cmp total x) ys) (filter (differs cmp total x) ys)) all.0 ∙ ap (λ (rest : List X). y ∷ rest) (all-differ ys all.1)
