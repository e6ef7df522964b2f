-- Lemmas of sorting: a sorted permutation of a list is its insertion sort, in any total order whose ties are equal. The order of rows is
-- such an order.
use Rattle.std.proofs.Common.{◌≡◌, ℕ, zero, suc, ◌+◌, ◌<◌, true, false, cond, List, [], ◌∷◌, length, get_or, refl, sym, ap, ◌∙◌, subst, arith, add-one}
use Rattle.std.specs.declared.cmp.Ordering.{Ordering}
use Rattle.std.specs.declared.cmp.Ordering.TheVariants.{Less, Equal, Greater}
use Rattle.std.specs.List.{sum_by}
use Rattle.std.specs.List.Sorted.{IsPermutation, IsSorted}
use Rattle.std.specs.Ordering.{is_le, is_gt, is_lt, is_eq, ordering_reverse}
use Rattle.std.specs.Cmp.{IsTotalOrder}
use Rattle.std.proofs.lemmas.Bool.{false≢true}
use Rattle.std.proofs.lemmas.Cmp.{upto, tied_itself}
use Rattle.std.proofs.lemmas.Map.Lookups.{CmpEqualImpliesEq}
use Rattle.std.proofs.lemmas.List.Sums.{sum_by-cons}
use Rattle.std.proofs.lemmas.List.Sorted.{sum_by-IsPermutation, IsPermutation-refl, IsPermutation-cons, IsPermutation-sym, IsPermutation-trans, IsPermutation-middle}
use Rattle.gp_base.specs.declared.cell.Cell.{Cell}
use Rattle.gp_base.specs.Order.{row_cmp, insert_sorted, sorted_by}
use Rattle.gp_base.specs.RowOrder.{row_cmp_total, exact_rows}

-- ---- results of a comparison

-- less or equal, and not greater
pub gt_from_le : (o : Ordering) → is_le o ≡ true → is_gt o ≡ false
gt_from_le Less e = refl
gt_from_le Equal e = refl
gt_from_le Greater e = sym e

pub le_from_gt : (o : Ordering) → is_gt o ≡ false → is_le o ≡ true
le_from_gt Less e = refl
le_from_gt Equal e = refl
le_from_gt Greater e = sym e

-- of two items one is less than or equal to the other
pub le_turned : (o : Ordering) → is_le o ≡ false → is_le (ordering_reverse o) ≡ true
le_turned Less e = sym e
le_turned Equal e = refl
le_turned Greater e = refl

-- where the second is not less than the first, the first is less than or equal to the second
pub le_from_lt_turned : (o : Ordering) → is_lt o ≡ false → is_le (ordering_reverse o) ≡ true
le_from_lt_turned Less e = sym e
le_from_lt_turned Equal e = refl
le_from_lt_turned Greater e = refl

-- the converse
lt_from_le_turned : (o : Ordering) → is_le o ≡ true → is_lt (ordering_reverse o) ≡ false
lt_from_le_turned Less e = refl
lt_from_le_turned Equal e = refl
lt_from_le_turned Greater e = sym e

-- less or equal in both directions
equal_from_both : (o : Ordering) → is_le o ≡ true → is_le (ordering_reverse o) ≡ true → o ≡ Equal
equal_from_both Less e f = absurd (false≢true f)
equal_from_both Equal e f = refl
equal_from_both Greater e f = absurd (false≢true e)

pub equal_from_is_eq : (o : Ordering) → is_eq o ≡ true → o ≡ Equal
equal_from_is_eq Less e = absurd (false≢true e)
equal_from_is_eq Equal e = refl
equal_from_is_eq Greater e = absurd (false≢true e)

-- ---- ascending lists

-- the item is less than or equal to each item of the list
abbrev IsLowerBound : {T : Type 0} → (T → T → Ordering) → T → List T → Type 0
IsLowerBound cmp item [] = Unit {0}
IsLowerBound cmp item (other ∷ others) = (is_le (cmp item other) ≡ true) × IsLowerBound cmp item others

-- each item is less than or equal to all later ones
abbrev IsAscending : {T : Type 0} → (T → T → Ordering) → List T → Type 0
IsAscending cmp [] = Unit {0}
IsAscending cmp (item ∷ items) = IsLowerBound cmp item items × IsAscending cmp items

-- how often the item occurs
abbrev times : {T : Type 0} → (T → T → Ordering) → T → List T → ℕ
times cmp item [] = 0
times cmp item (other ∷ others) = cond (is_eq (cmp item other)) 1 0 + times cmp item others

module _ {T : Type 0} (cmp : T → T → Ordering) (total : IsTotalOrder cmp) (exact : CmpEqualImpliesEq cmp) where
  -- transitivity
  le_through : (x y z : T) → is_le (cmp x y) ≡ true → is_le (cmp y z) ≡ true → is_le (cmp x z) ≡ true
  le_through x y z first second = le_from_gt (cmp x z) (upto total x y z (gt_from_le (cmp x y) first) (gt_from_le (cmp y z) second))

  IsLowerBound-through : (x y : T) (zs : List T) → is_le (cmp x y) ≡ true → IsLowerBound cmp y zs → IsLowerBound cmp x zs
  IsLowerBound-through x y [] first all = tt
  IsLowerBound-through x y (z ∷ zs) first all = (le_through x y z first all.0, IsLowerBound-through x y zs first all.1)

  -- a lower bound of a list and of an item is one of the list with the item inserted
  IsLowerBound-insert_sorted : (x item : T) (ys : List T) → is_le (cmp x item) ≡ true → IsLowerBound cmp x ys → IsLowerBound cmp x (insert_sorted cmp item ys)
  IsLowerBound-insert_sorted x item [] below all = (below, tt)
  IsLowerBound-insert_sorted x item (y ∷ ys) below all =
      elim (is_le (cmp item y)) as (λ b. IsLowerBound cmp x (cond b (item ∷ y ∷ ys) (y ∷ insert_sorted cmp item ys))) [
        | true ↦ (below, all)
        | false ↦ (all.0, IsLowerBound-insert_sorted x item ys below all.1)
      ]

  -- inserting an item keeps a list ascending
  IsAscending-insert_sorted : (item : T) (ys : List T) → IsAscending cmp ys → IsAscending cmp (insert_sorted cmp item ys)
  IsAscending-insert_sorted item [] ascending = (tt, tt)
  IsAscending-insert_sorted item (y ∷ ys) ascending =
      elim (is_le (cmp item y)) as (λ b. is_le (cmp item y) ≡ b → IsAscending cmp (cond b (item ∷ y ∷ ys) (y ∷ insert_sorted cmp item ys))) [
        | true ↦ λ is. ((is, IsLowerBound-through item y ys is ascending.0), ascending)
        | false ↦ λ is. (IsLowerBound-insert_sorted y item ys (subst (λ o. is_le o ≡ true) (sym (total.antisymm y item)) (le_turned (cmp item y) is)) ascending.0, IsAscending-insert_sorted item ys ascending.1)
      ] refl

  IsAscending-sorted_by : (xs : List T) → IsAscending cmp (sorted_by cmp xs)
  IsAscending-sorted_by [] = tt
  IsAscending-sorted_by (x ∷ xs) = IsAscending-insert_sorted x (sorted_by cmp xs) (IsAscending-sorted_by xs)

  -- a list that is sorted by std's definition is ascending
  IsAscending-from_sorted : (xs : List T) → IsSorted cmp xs → IsAscending cmp xs
  IsAscending-from_sorted [] sorted = tt
  IsAscending-from_sorted (x ∷ []) sorted = (tt, tt)
  IsAscending-from_sorted (x ∷ y ∷ ys) sorted =
      let first : is_le (cmp x y) ≡ true =
      subst (λ o. is_le o ≡ true) (sym (total.antisymm x y)) (le_from_lt_turned (cmp y x) (sorted 0 x (omega arith) (omega arith))) in
      let rest : IsAscending cmp (y ∷ ys) = IsAscending-from_sorted (y ∷ ys) (λ k d low high. rw add-one (simp add-one at (sorted (suc k) d (omega arith) (omega arith)))) in
      ((first, IsLowerBound-through x y ys first rest.0), rest)

  -- an ascending list is sorted by std's definition
  sorted_at : (xs : List T) → IsAscending cmp xs → (k : ℕ) (d : T) → k + 1 < length xs → is_lt (cmp (get_or xs (k + 1) d) (get_or xs k d)) ≡ false
  sorted_at [] ascending k d within = absurd (omega arith)
  sorted_at (x ∷ []) ascending k d within = absurd (omega arith)
  sorted_at (x ∷ y ∷ ys) ascending zero d within = subst (λ o. is_lt o ≡ false) (sym (total.antisymm y x)) (lt_from_le_turned (cmp x y) ascending.0.0)
  sorted_at (x ∷ y ∷ ys) ascending (suc k) d within = rw add-one (simp add-one at (sorted_at (y ∷ ys) ascending.1 k d (omega arith)))

  IsSorted-sorted_by : (xs : List T) → IsSorted cmp (sorted_by cmp xs)
  IsSorted-sorted_by xs k d low high = sorted_at (sorted_by cmp xs) (IsAscending-sorted_by xs) k d high

  -- ---- how often each item occurs

  -- inserting an item counts it once
  times-insert_sorted : (item x : T) (ys : List T) → times cmp item (insert_sorted cmp x ys) ≡ times cmp item (x ∷ ys)
  times-insert_sorted item x [] = refl
  times-insert_sorted item x (y ∷ ys) =
      elim (is_le (cmp x y)) as (λ b. times cmp item (cond b (x ∷ y ∷ ys) (y ∷ insert_sorted cmp x ys)) ≡ times cmp item (x ∷ y ∷ ys)) [
        | true ↦ refl
        | false ↦ omega (arith, times-insert_sorted item x ys)
      ]

  times-sorted_by : (item : T) (xs : List T) → times cmp item (sorted_by cmp xs) ≡ times cmp item xs
  times-sorted_by item [] = refl
  times-sorted_by item (x ∷ xs) = times-insert_sorted item x (sorted_by cmp xs) ∙ ap (λ n. cond (is_eq (cmp item x)) 1 0 + n) (times-sorted_by item xs)

  -- the count as a sum, which permutations preserve
  times-is : (item : T) (xs : List T) → times cmp item xs ≡ sum_by (λ other. cond (is_eq (cmp item other)) 1 0) xs
  times-is item [] = refl
  times-is item (x ∷ xs) = ap (λ n. cond (is_eq (cmp item x)) 1 0 + n) (times-is item xs) ∙ sym (sum_by-cons (λ other. cond (is_eq (cmp item other)) 1 0) x xs)

  times-IsPermutation : (item : T) (xs ys : List T) → IsPermutation xs ys → times cmp item ys ≡ times cmp item xs
  times-IsPermutation item xs ys moved = times-is item ys ∙ sum_by-IsPermutation (λ other. cond (is_eq (cmp item other)) 1 0) xs ys moved ∙ sym (times-is item xs)

  times_itself : (x : T) (xs : List T) → 0 < times cmp x (x ∷ xs)
  times_itself x xs = rw (tied_itself total x) (omega arith)

  -- a lower bound of a list is less than or equal to each item that occurs in it
  below_occurring : (x item : T) (ys : List T) → IsLowerBound cmp x ys → 0 < times cmp item ys → is_le (cmp x item) ≡ true
  below_occurring x item [] all occurs = absurd (omega arith)
  below_occurring x item (y ∷ ys) all occurs =
      elim (is_eq (cmp item y)) as (λ b. is_eq (cmp item y) ≡ b → 0 < cond b 1 0 + times cmp item ys → is_le (cmp x item) ≡ true) [
        | true ↦ λ is some. subst (λ z. is_le (cmp x z) ≡ true) (sym (exact item y (equal_from_is_eq (cmp item y) is))) all.0
        | false ↦ λ is some. below_occurring x item ys all.1 (omega arith)
      ] refl occurs

  le_itself : (x : T) → is_le (cmp x x) ≡ true
  le_itself x = ap is_le (tied_itself total x)

  -- two ascending lists with equal counts of each item are equal
  ascending_unique : (xs ys : List T) → IsAscending cmp xs → IsAscending cmp ys → ((item : T) → times cmp item xs ≡ times cmp item ys) → xs ≡ ys
  ascending_unique [] [] up up' same = refl
  ascending_unique [] (y ∷ ys) up up' same = absurd (omega (arith, same y, times_itself y ys))
  ascending_unique (x ∷ xs) [] up up' same = absurd (omega (arith, same x, times_itself x xs))
  ascending_unique (x ∷ xs) (y ∷ ys) up up' same =
      let left : is_le (cmp x y) ≡ true = below_occurring x y (x ∷ xs) (le_itself x, up.0) (omega (arith, same y, times_itself y ys)) in
      let right : is_le (cmp y x) ≡ true = below_occurring y x (y ∷ ys) (le_itself y, up'.0) (omega (arith, same x, times_itself x xs)) in
      let first : x ≡ y = exact x y (equal_from_both (cmp x y) left (subst (λ o. is_le o ≡ true) (total.antisymm y x) right)) in
      let rest : xs ≡ ys =
      ascending_unique xs ys up.1 up'.1 (λ item.
      let counts : cond (is_eq (cmp item y)) 1 0 + times cmp item xs ≡ cond (is_eq (cmp item y)) 1 0 + times cmp item ys =
      subst (λ z. cond (is_eq (cmp item z)) 1 0 + times cmp item xs ≡ cond (is_eq (cmp item y)) 1 0 + times cmp item ys) first (same item) in
      omega arith) in
      cc

  -- a sorted permutation of a list is its insertion sort
  sorted_by-unique : (xs ys : List T) → IsPermutation xs ys → IsSorted cmp ys → ys ≡ sorted_by cmp xs
  sorted_by-unique xs ys moved sorted =
      ascending_unique ys (sorted_by cmp xs) (IsAscending-from_sorted ys sorted) (IsAscending-sorted_by xs) (λ item. times-IsPermutation item xs ys moved ∙ sym (times-sorted_by item xs))

-- ---- insertion sort is a permutation

IsPermutation-insert_sorted : {T : Type 0} (cmp : T → T → Ordering) (x : T) (ys : List T) → IsPermutation (x ∷ ys) (insert_sorted cmp x ys)
IsPermutation-insert_sorted cmp x [] = IsPermutation-refl (x ∷ [])
IsPermutation-insert_sorted cmp x (y ∷ ys) =
    elim (is_le (cmp x y)) as (λ b. IsPermutation (x ∷ y ∷ ys) (cond b (x ∷ y ∷ ys) (y ∷ insert_sorted cmp x ys))) [
      | true ↦ IsPermutation-refl (x ∷ y ∷ ys)
      | false ↦ IsPermutation-trans (x ∷ y ∷ ys) (y ∷ x ∷ ys) (y ∷ insert_sorted cmp x ys) (IsPermutation-sym (y ∷ x ∷ ys) (x ∷ y ∷ ys) (IsPermutation-middle (y ∷ []) x ys)) (IsPermutation-cons y (x ∷ ys) (insert_sorted cmp x ys) (IsPermutation-insert_sorted cmp x ys))
    ]

IsPermutation-sorted_by : {T : Type 0} (cmp : T → T → Ordering) (xs : List T) → IsPermutation xs (sorted_by cmp xs)
IsPermutation-sorted_by cmp [] = IsPermutation-refl []
IsPermutation-sorted_by cmp (x ∷ xs) =
    IsPermutation-trans (x ∷ xs) (x ∷ sorted_by cmp xs) (sorted_by cmp (x ∷ xs)) (IsPermutation-cons x xs (sorted_by cmp xs) (IsPermutation-sorted_by cmp xs)) (IsPermutation-insert_sorted cmp x (sorted_by cmp xs))

-- ---- rows

pub rows_permuted : (rows : List (List Cell)) → IsPermutation rows (sorted_by row_cmp rows)
rows_permuted = IsPermutation-sorted_by row_cmp

pub rows_sorted : (rows : List (List Cell)) → IsSorted row_cmp (sorted_by row_cmp rows)
rows_sorted = IsSorted-sorted_by row_cmp row_cmp_total exact_rows

-- a sorted permutation of rows is unique
pub sorted_rows_unique : (rows sorted : List (List Cell)) → IsPermutation rows sorted → IsSorted row_cmp sorted → sorted ≡ sorted_by row_cmp rows
sorted_rows_unique = sorted_by-unique row_cmp row_cmp_total exact_rows
