-- The difference of two bags, each in row order.
use Rattle.std.proofs.Common.{◌≡◌, ℕ, zero, suc, ◌+◌, ◌-◌, ◌<◌, ◌≤◌, false, List, [], ◌∷◌, ◌++◌, length, drop, get_or, map, refl, sym, ap, ◌∙◌, subst, arith, add-one, append_assoc, ◌⊎◌, inl, inr}
use Rattle.std.specs.List.{AllByRecursion, Contains}
use Rattle.std.specs.List.Sorted.{IsPermutation, IsSorted}
use Rattle.std.specs.Ordering.{is_gt, is_lt, ordering_reverse}
use Rattle.std.specs.declared.cmp.Ordering.{Ordering}
use Rattle.std.specs.declared.cmp.Ordering.TheVariants.{Less, Equal, Greater}
use Rattle.std.specs.Cmp.Lexicographic.{slice_cmp}
use Rattle.std.specs.FinMap.Entries.{by_order}
use Rattle.std.proofs.lemmas.Bool.{false≢true}
use Rattle.std.proofs.lemmas.Cmp.{alike_right, tied_itself, upto}
use Rattle.std.proofs.lemmas.List.{append-nil, at_drop_all, drop_more, length-drop}
use Rattle.std.proofs.lemmas.List.Elements.{All-contains, All-from_recursion}
use Rattle.std.proofs.lemmas.List.Sorted.{IsPermutation-refl, IsPermutation-cons, IsPermutation-sym, IsPermutation-trans, IsPermutation-middle}
use Rattle.gp_base.specs.declared.cell.Cell.{Cell}
use Rattle.gp_base.specs.declared.cell.Cell.TheVariants.{Null, Int, Text, Id, Mark, Mono}
use Rattle.gp_base.specs.contracts.cell.CellOrd.TheImpl as cell_order
use Rattle.gp_base.specs.Order.{cell_cmp, row_cmp}
use Rattle.gp_base.specs.RowOrder.{exact_rows, row_cmp_total}
use Rattle.gp_ask.specs.Deltas.{Signed, added, added_rows, delta, delta_from, removed, removed_rows, signed_row, with_sign}
use Rattle.gp_ask.specs.DeltaForms.{added_in, removed_in}

-- ---- bags

all_added : (others : List (List Cell)) → added_rows (map added others) ≡ others
all_added [] = refl
all_added (other ∷ others) = ap (λ (rows : List (List Cell)). other ∷ rows) (all_added others)

none_removed : (others : List (List Cell)) → removed_rows (map added others) ≡ []
none_removed [] = refl
none_removed (other ∷ others) = none_removed others

-- what is added to the one bag, and what to the other, makes them the same
abbrev Balances : List (List Cell) → List (List Cell) → List Signed → Type 0
Balances rows others lines = IsPermutation (rows ++ added_rows lines) (others ++ removed_rows lines)

balances_from : (row : List Cell) (rows : List (List Cell)) (rest : List (List Cell) → List Signed) → ((others : List (List Cell)) → Balances rows others (rest others))
    → (others : List (List Cell)) → Balances (row ∷ rows) others (delta_from row rest others)
balances_from row rows rest all [] = IsPermutation-cons row (rows ++ added_rows (rest [])) (removed_rows (rest [])) (all [])
balances_from row rows rest all (other ∷ others) =
    elim (row_cmp row other) as (λ o. row_cmp row other ≡ o → Balances (row ∷ rows) (other ∷ others) (by_order o (removed row ∷ rest (other ∷ others)) (rest others) (added other ∷ delta_from row rest others))) [
      | Less ↦ λ e.
          let own : List (List Cell) = other ∷ others in
          let lost : List (List Cell) = removed_rows (rest own) in
          IsPermutation-trans (row ∷ (rows ++ added_rows (rest own))) (row ∷ (own ++ lost)) (own ++ row ∷ lost)
          (IsPermutation-cons row (rows ++ added_rows (rest own)) (own ++ lost) (all own))
          (IsPermutation-sym (own ++ row ∷ lost) (row ∷ (own ++ lost)) (IsPermutation-middle own row lost))
      | Equal ↦ λ e.
          subst (λ (first : List Cell). IsPermutation (row ∷ (rows ++ added_rows (rest others))) (first ∷ (others ++ removed_rows (rest others)))) (exact_rows row other e)
          (IsPermutation-cons row (rows ++ added_rows (rest others)) (others ++ removed_rows (rest others)) (all others))
      | Greater ↦ λ e.
          let lines : List Signed = delta_from row rest others in
          IsPermutation-trans ((row ∷ rows) ++ other ∷ added_rows lines) (other ∷ ((row ∷ rows) ++ added_rows lines)) (other ∷ (others ++ removed_rows lines))
          (IsPermutation-middle (row ∷ rows) other (added_rows lines))
          (IsPermutation-cons other ((row ∷ rows) ++ added_rows lines) (others ++ removed_rows lines) (balances_from row rows rest all others))
    ] refl

pub balances : (rows others : List (List Cell)) → Balances rows others (delta rows others)
balances [] others =
    subst (λ (list : List (List Cell)). IsPermutation (added_rows (map added others)) list) (all_added others ∙ sym (append-nil others) ∙ ap (λ (lost : List (List Cell)). others ++ lost) (sym (none_removed others)))
    (IsPermutation-refl (added_rows (map added others)))
balances (row ∷ rows) others = balances_from row rows (delta rows) (balances rows) others

-- ---- no lines

same_from : (row : List Cell) (rows : List (List Cell)) (rest : List (List Cell) → List Signed) → ((others : List (List Cell)) → rest others ≡ [] → rows ≡ others)
    → (others : List (List Cell)) → delta_from row rest others ≡ [] → row ∷ rows ≡ others
same_from row rows rest all [] none = absurd cc
same_from row rows rest all (other ∷ others) none =
    elim (row_cmp row other) as (λ o. row_cmp row other ≡ o → by_order o (removed row ∷ rest (other ∷ others)) (rest others) (added other ∷ delta_from row rest others) ≡ [] → row ∷ rows ≡ other ∷ others) [
      | Less ↦ λ e is. absurd cc
      | Equal ↦ λ e is. ap (λ (first : List Cell). first ∷ rows) (exact_rows row other e) ∙ ap (λ (later : List (List Cell)). other ∷ later) (all others is)
      | Greater ↦ λ e is. absurd cc
    ] refl none

pub same_bags : (rows others : List (List Cell)) → delta rows others ≡ [] → rows ≡ others
same_bags [] [] none = refl
same_bags [] (other ∷ others) none = absurd cc
same_bags (row ∷ rows) others none = same_from row rows (delta rows) (same_bags rows) others none

pub none_itself : (rows : List (List Cell)) → delta rows rows ≡ []
none_itself [] = refl
none_itself (row ∷ rows) =
    ap (λ o. by_order o (removed row ∷ delta rows (row ∷ rows)) (delta rows rows) (added row ∷ delta_from row (delta rows) rows)) (tied_itself row_cmp_total row)
    ∙ none_itself rows

-- ---- one of the lists at its end

lost_all : (rows : List (List Cell)) → delta rows [] ≡ map removed rows
lost_all [] = refl
lost_all (row ∷ rows) = ap (λ (lines : List Signed). removed row ∷ lines) (lost_all rows)

removed_of_removed : (rows : List (List Cell)) → removed_in (map removed rows) ≡ length rows
removed_of_removed [] = refl
removed_of_removed (row ∷ rows) = ap suc (removed_of_removed rows)

added_of_removed : (rows : List (List Cell)) → added_in (map removed rows) ≡ 0
added_of_removed [] = refl
added_of_removed (row ∷ rows) = added_of_removed rows

removed_of_added : (rows : List (List Cell)) → removed_in (map added rows) ≡ 0
removed_of_added [] = refl
removed_of_added (row ∷ rows) = removed_of_added rows

added_of_added : (rows : List (List Cell)) → added_in (map added rows) ≡ length rows
added_of_added [] = refl
added_of_added (row ∷ rows) = ap suc (added_of_added rows)

pub removed_at_first_end : (rows others : List (List Cell)) (i j : ℕ) → length rows ≤ i → removed_in (delta (drop i rows) (drop j others)) ≡ 0
removed_at_first_end rows others i j end = at_drop_all (λ (list : List (List Cell)). removed_in (delta list (drop j others))) rows i end ∙ removed_of_added (drop j others)

pub added_at_first_end : (rows others : List (List Cell)) (i j : ℕ) → length rows ≤ i → added_in (delta (drop i rows) (drop j others)) ≡ length others - j
added_at_first_end rows others i j end =
    at_drop_all (λ (list : List (List Cell)). added_in (delta list (drop j others))) rows i end ∙ added_of_added (drop j others) ∙ length-drop j others

pub removed_at_second_end : (rows others : List (List Cell)) (i j : ℕ) → length others ≤ j → removed_in (delta (drop i rows) (drop j others)) ≡ length rows - i
removed_at_second_end rows others i j end =
    at_drop_all (λ (list : List (List Cell)). removed_in (delta (drop i rows) list)) others j end ∙ ap removed_in (lost_all (drop i rows)) ∙ removed_of_removed (drop i rows) ∙ length-drop i rows

pub added_at_second_end : (rows others : List (List Cell)) (i j : ℕ) → length others ≤ j → added_in (delta (drop i rows) (drop j others)) ≡ 0
added_at_second_end rows others i j end =
    at_drop_all (λ (list : List (List Cell)). added_in (delta (drop i rows) list)) others j end ∙ ap added_in (lost_all (drop i rows)) ∙ added_of_removed (drop i rows)

pub ruleset ends = (removed_at_first_end, added_at_first_end, removed_at_second_end, added_at_second_end)

-- ---- how many lines

pub counted : (lines : List Signed) → removed_in lines + added_in lines ≡ length lines
counted [] = refl
counted (removed row ∷ lines) =
    let more : removed_in lines + added_in lines ≡ length lines = counted lines in
    let all : suc (removed_in lines) + added_in lines ≡ suc (length lines) = omega arith in
    all
counted (added row ∷ lines) =
    let more : removed_in lines + added_in lines ≡ length lines = counted lines in
    let all : removed_in lines + suc (added_in lines) ≡ suc (length lines) = omega arith in
    all

-- ---- the comparison of rows

-- the derived order of cells, which computes at variants alone, is that of the statement
cells_compared : (cell other : Cell) → (cell_order.cmp-value).it cell other ≡ cell_cmp cell other
cells_compared Null Null = refl
cells_compared Null (Int y) = refl
cells_compared Null (Text y) = refl
cells_compared Null (Id y) = refl
cells_compared Null (Mark y) = refl
cells_compared Null (Mono y) = refl
cells_compared (Int x) Null = refl
cells_compared (Int x) (Int y) = refl
cells_compared (Int x) (Text y) = refl
cells_compared (Int x) (Id y) = refl
cells_compared (Int x) (Mark y) = refl
cells_compared (Int x) (Mono y) = refl
cells_compared (Text x) Null = refl
cells_compared (Text x) (Int y) = refl
cells_compared (Text x) (Text y) = refl
cells_compared (Text x) (Id y) = refl
cells_compared (Text x) (Mark y) = refl
cells_compared (Text x) (Mono y) = refl
cells_compared (Id x) Null = refl
cells_compared (Id x) (Int y) = refl
cells_compared (Id x) (Text y) = refl
cells_compared (Id x) (Id y) = refl
cells_compared (Id x) (Mark y) = refl
cells_compared (Id x) (Mono y) = refl
cells_compared (Mark x) Null = refl
cells_compared (Mark x) (Int y) = refl
cells_compared (Mark x) (Text y) = refl
cells_compared (Mark x) (Id y) = refl
cells_compared (Mark x) (Mark y) = refl
cells_compared (Mark x) (Mono y) = refl
cells_compared (Mono x) Null = refl
cells_compared (Mono x) (Int y) = refl
cells_compared (Mono x) (Text y) = refl
cells_compared (Mono x) (Id y) = refl
cells_compared (Mono x) (Mark y) = refl
cells_compared (Mono x) (Mono y) = refl

pub rows_compared : (row other : List Cell) → slice_cmp (cell_order.cmp-value).it row other ≡ row_cmp row other
rows_compared row other = λ i. slice_cmp (λ x y. cells_compared x y i) row other

-- ---- the first rows of what remains

-- the difference of two rests, by the comparison of their first rows
pub first_of : (rows others : List (List Cell)) (i j : ℕ) (row other : List Cell) → i < length rows → j < length others → row ≡ get_or rows i row → other ≡ get_or others j other
    → (o : Ordering) → o ≡ row_cmp row other
    → delta (drop i rows) (drop j others) ≡ by_order o (removed row ∷ delta (drop (i + 1) rows) (drop j others)) (delta (drop (i + 1) rows) (drop (j + 1) others)) (added other ∷ delta (drop i rows) (drop (j + 1) others))
first_of rows others i j row other left right row_is other_is o is =
    let own : drop i rows ≡ row ∷ drop (i + 1) rows = drop_more rows i row left ∙ ap (λ (first : List Cell). first ∷ drop (i + 1) rows) (sym row_is) in
    let beside : drop j others ≡ other ∷ drop (j + 1) others = drop_more others j other right ∙ ap (λ (first : List Cell). first ∷ drop (j + 1) others) (sym other_is) in
    ap (λ (list : List (List Cell)). delta list (drop j others)) own
    ∙ ap (λ (list : List (List Cell)). delta (row ∷ drop (i + 1) rows) list) beside
    ∙ ap (λ (list : List (List Cell)). by_order (row_cmp row other) (removed row ∷ delta (drop (i + 1) rows) list) (delta (drop (i + 1) rows) (drop (j + 1) others)) (added other ∷ delta (row ∷ drop (i + 1) rows) (drop (j + 1) others))) (sym beside)
    ∙ ap (λ (list : List (List Cell)). by_order (row_cmp row other) (removed row ∷ delta (drop (i + 1) rows) (drop j others)) (delta (drop (i + 1) rows) (drop (j + 1) others)) (added other ∷ delta list (drop (j + 1) others))) (sym own)
    ∙ ap (λ (p : Ordering). by_order p (removed row ∷ delta (drop (i + 1) rows) (drop j others)) (delta (drop (i + 1) rows) (drop (j + 1) others)) (added other ∷ delta (drop i rows) (drop (j + 1) others))) (sym is)

-- a line that is written is the first of those that remain
pub one_more : (lines more : List (List Cell)) (own : List Cell) (line : Signed) (rest before : List Signed) (all : List (List Cell)) → more ≡ lines ++ own ∷ [] → own ≡ with_sign line → before ≡ line ∷ rest
    → lines ++ map with_sign before ≡ all → more ++ map with_sign rest ≡ all
one_more lines more own line rest before all pushed is first whole =
    ap (λ (list : List (List Cell)). list ++ map with_sign rest) pushed
    ∙ append_assoc lines (own ∷ []) (map with_sign rest)
    ∙ ap (λ (t : List Cell). lines ++ t ∷ map with_sign rest) is
    ∙ ap (λ (list : List Signed). lines ++ map with_sign list) (sym first)
    ∙ whole

-- ---- what holds of each row

rows_of_added : (others : List (List Cell)) → map signed_row (map added others) ≡ others
rows_of_added [] = refl
rows_of_added (other ∷ others) = ap (λ (rows : List (List Cell)). other ∷ rows) (rows_of_added others)

module _ (P : List Cell → Type 0) where
  removed_from : (row : List Cell) (rest : List (List Cell) → List Signed) → P row → ((others : List (List Cell)) → AllByRecursion P (removed_rows (rest others)))
      → (others : List (List Cell)) → AllByRecursion P (removed_rows (delta_from row rest others))
  removed_from row rest is all [] = (is, all [])
  removed_from row rest is all (other ∷ others) =
      elim (row_cmp row other) as (λ o. AllByRecursion P (removed_rows (by_order o (removed row ∷ rest (other ∷ others)) (rest others) (added other ∷ delta_from row rest others)))) [
        | Less ↦ (is, all (other ∷ others))
        | Equal ↦ all others
        | Greater ↦ removed_from row rest is all others
      ]

  each_removed : (rows others : List (List Cell)) → AllByRecursion P rows → AllByRecursion P (removed_rows (delta rows others))
  each_removed [] others each = subst (AllByRecursion P) (sym (none_removed others)) tt
  each_removed (row ∷ rows) others each = removed_from row (delta rows) each.0 (λ more. each_removed rows more each.1) others

  added_from : (row : List Cell) (rest : List (List Cell) → List Signed) → ((others : List (List Cell)) → AllByRecursion P others → AllByRecursion P (added_rows (rest others)))
      → (others : List (List Cell)) → AllByRecursion P others → AllByRecursion P (added_rows (delta_from row rest others))
  added_from row rest all [] each = all [] tt
  added_from row rest all (other ∷ others) each =
      elim (row_cmp row other) as (λ o. AllByRecursion P (added_rows (by_order o (removed row ∷ rest (other ∷ others)) (rest others) (added other ∷ delta_from row rest others)))) [
        | Less ↦ all (other ∷ others) each
        | Equal ↦ all others each.1
        | Greater ↦ (each.0, added_from row rest all others each.1)
      ]

  each_added : (rows others : List (List Cell)) → AllByRecursion P others → AllByRecursion P (added_rows (delta rows others))
  each_added [] others each = subst (AllByRecursion P) (sym (all_added others)) each
  each_added (row ∷ rows) others each = added_from row (delta rows) (λ more. each_added rows more) others each

  row_from : (row : List Cell) (rest : List (List Cell) → List Signed) → P row → ((others : List (List Cell)) → AllByRecursion P others → AllByRecursion P (map signed_row (rest others)))
      → (others : List (List Cell)) → AllByRecursion P others → AllByRecursion P (map signed_row (delta_from row rest others))
  row_from row rest is all [] each = (is, all [] tt)
  row_from row rest is all (other ∷ others) each =
      elim (row_cmp row other) as (λ o. AllByRecursion P (map signed_row (by_order o (removed row ∷ rest (other ∷ others)) (rest others) (added other ∷ delta_from row rest others)))) [
        | Less ↦ (is, all (other ∷ others) each)
        | Equal ↦ all others each.1
        | Greater ↦ (each.0, row_from row rest is all others each.1)
      ]

  each_row : (rows others : List (List Cell)) → AllByRecursion P rows → AllByRecursion P others → AllByRecursion P (map signed_row (delta rows others))
  each_row [] others each all = subst (AllByRecursion P) (sym (rows_of_added others)) all
  each_row (row ∷ rows) others each all = row_from row (delta rows) each.0 (λ more. each_row rows more each.1) others all

-- ---- the order of rows

turned : (row other : List Cell) → row_cmp row other ≡ Greater → row_cmp other row ≡ Less
turned row other e = row_cmp_total.antisymm other row ∙ ap ordering_reverse e

not_after : (o : Ordering) → is_lt o ≡ false → is_gt (ordering_reverse o) ≡ false
not_after Less e = e
not_after Equal e = refl
not_after Greater e = refl

not_before : (o : Ordering) → is_gt o ≡ false → is_lt (ordering_reverse o) ≡ false
not_before Less e = refl
not_before Equal e = refl
not_before Greater e = e

-- the row is not after any of the list, and it is before each of it
abbrev IsLow : List Cell → List (List Cell) → Type 0
IsLow row rows = AllByRecursion (λ other. is_gt (row_cmp row other) ≡ false) rows

abbrev IsBefore : List Cell → List (List Cell) → Type 0
IsBefore row rows = AllByRecursion (λ other. row_cmp row other ≡ Less) rows

-- each row is not after any that follows
abbrev Ascends : List (List Cell) → Type 0
Ascends [] = Unit {0}
Ascends (row ∷ rows) = IsLow row rows × Ascends rows

low_through : (row other : List Cell) (others : List (List Cell)) → is_gt (row_cmp row other) ≡ false → IsLow other others → IsLow row others
low_through row other [] first all = tt
low_through row other (next ∷ others) first all = (upto row_cmp_total row other next first all.0, low_through row other others first all.1)

less_through : (row other next : List Cell) → row_cmp row other ≡ Less → is_gt (row_cmp other next) ≡ false → row_cmp row next ≡ Less
less_through row other next less low =
    elim (row_cmp other next) as (λ o. row_cmp other next ≡ o → is_gt o ≡ false → row_cmp row next ≡ Less) [
      | Less ↦ λ e is. row_cmp_total.trans row other next less e
      | Equal ↦ λ e is. sym (alike_right row_cmp_total other next row e) ∙ less
      | Greater ↦ λ e is. absurd (false≢true (sym is))
    ] refl low

before_through : (row other : List Cell) (others : List (List Cell)) → row_cmp row other ≡ Less → IsLow other others → IsBefore row others
before_through row other [] less all = tt
before_through row other (next ∷ others) less all = (less_through row other next less all.0, before_through row other others less all.1)

ascends : (rows : List (List Cell)) → IsSorted row_cmp rows → Ascends rows
ascends [] sorted = tt
ascends (row ∷ []) sorted = (tt, tt)
ascends (row ∷ other ∷ others) sorted =
    let first : is_gt (row_cmp row other) ≡ false =
    subst (λ o. is_gt o ≡ false) (sym (row_cmp_total.antisymm row other)) (not_after (row_cmp other row) (sorted 0 row (omega arith) (omega arith))) in
    let rest : Ascends (other ∷ others) = ascends (other ∷ others) (λ k d low high. rw add-one (simp add-one at (sorted (suc k) d (omega arith) (omega arith)))) in
    ((first, low_through row other others first rest.0), rest)

sorted_at : (rows : List (List Cell)) → Ascends rows → (k : ℕ) (d : List Cell) → k + 1 < length rows → is_lt (row_cmp (get_or rows (k + 1) d) (get_or rows k d)) ≡ false
sorted_at [] up k d within = absurd (omega arith)
sorted_at (row ∷ []) up k d within = absurd (omega arith)
sorted_at (row ∷ other ∷ others) up zero d within = subst (λ o. is_lt o ≡ false) (sym (row_cmp_total.antisymm other row)) (not_before (row_cmp row other) up.0.0)
sorted_at (row ∷ other ∷ others) up (suc k) d within = rw add-one (simp add-one at (sorted_at (other ∷ others) up.1 k d (omega arith)))

rising_from : (row : List Cell) (rows : List (List Cell)) → IsLow row rows → ((others : List (List Cell)) → Ascends others → Ascends (map signed_row (delta rows others)))
    → (others : List (List Cell)) → Ascends others → Ascends (map signed_row (delta_from row (delta rows) others))
rising_from row rows low all [] up = (each_row (λ next. is_gt (row_cmp row next) ≡ false) rows [] low tt, all [] tt)
rising_from row rows low all (other ∷ others) up =
    elim (row_cmp row other) as (λ o. row_cmp row other ≡ o → Ascends (map signed_row (by_order o (removed row ∷ delta rows (other ∷ others)) (delta rows others) (added other ∷ delta_from row (delta rows) others)))) [
      | Less ↦ λ e. (each_row (λ next. is_gt (row_cmp row next) ≡ false) rows (other ∷ others) low (ap is_gt e, low_through row other others (ap is_gt e) up.0), all (other ∷ others) up)
      | Equal ↦ λ e. all others up.1
      | Greater ↦ λ e.
          let first : is_gt (row_cmp other row) ≡ false = ap is_gt (turned row other e) in
          (each_row (λ next. is_gt (row_cmp other next) ≡ false) (row ∷ rows) others (first, low_through other row rows first low) up.0, rising_from row rows low all others up.1)
    ] refl

rising : (rows others : List (List Cell)) → Ascends rows → Ascends others → Ascends (map signed_row (delta rows others))
rising [] others up up' = subst Ascends (sym (rows_of_added others)) up'
rising (row ∷ rows) others up up' = rising_from row rows up.0 (λ more. rising rows more up.1) others up'

pub sorted_delta : (rows others : List (List Cell)) → IsSorted row_cmp rows → IsSorted row_cmp others → IsSorted row_cmp (map signed_row (delta rows others))
sorted_delta rows others sorted sorted' k d low high = sorted_at (map signed_row (delta rows others)) (rising rows others (ascends rows sorted) (ascends others sorted')) k d high

-- ---- no row with both signs

abbrev AreApart : List (List Cell) → List (List Cell) → Type 0
AreApart rows others = (row : List Cell) → Contains rows row → Contains others row → ⊥

not_among : (row : List Cell) (rows : List (List Cell)) → IsBefore row rows → Contains rows row → ⊥
not_among row rows before is =
    let P : List Cell → Type 0 = λ other. row_cmp row other ≡ Less in
    false≢true (ap is_lt (sym (tied_itself row_cmp_total row) ∙ All-contains P rows row (All-from_recursion P rows before) is))

contained_at : (row first : List Cell) (rows : List (List Cell)) (k : ℕ) → k < length (first ∷ rows) → get_or (first ∷ rows) k row ≡ row → (first ≡ row) ⊎ Contains rows row
contained_at row first rows zero within is = inl is
contained_at row first rows (suc k) within is = inr (k, omega arith, is)

-- a row that is before all others
apart_removed : (first : List Cell) (rows others : List (List Cell)) → IsBefore first others → AreApart rows others → AreApart (first ∷ rows) others
apart_removed first rows others before apart row is also =
    elim (contained_at row first rows is.0 is.1 is.2) as (λ found. ⊥) [
      | inl same ↦ not_among first others before (subst (Contains others) (sym same) also)
      | inr later ↦ apart row later also
    ]

apart_added : (first : List Cell) (rows others : List (List Cell)) → IsBefore first rows → AreApart rows others → AreApart rows (first ∷ others)
apart_added first rows others before apart row is also =
    elim (contained_at row first others also.0 also.1 also.2) as (λ found. ⊥) [
      | inl same ↦ not_among first rows before (subst (Contains rows) (sym same) is)
      | inr later ↦ apart row is later
    ]

abbrev IsApart : List Signed → Type 0
IsApart lines = AreApart (removed_rows lines) (added_rows lines)

apart_from : (row : List Cell) (rows : List (List Cell)) → IsLow row rows → ((others : List (List Cell)) → Ascends others → IsApart (delta rows others))
    → (others : List (List Cell)) → Ascends others → IsApart (delta_from row (delta rows) others)
apart_from row rows low all [] up =
    apart_removed row (removed_rows (delta rows [])) (added_rows (delta rows [])) (each_added (λ next. row_cmp row next ≡ Less) rows [] tt) (all [] tt)
apart_from row rows low all (other ∷ others) up =
    elim (row_cmp row other) as (λ o. row_cmp row other ≡ o → IsApart (by_order o (removed row ∷ delta rows (other ∷ others)) (delta rows others) (added other ∷ delta_from row (delta rows) others))) [
      | Less ↦ λ e.
          let own : List (List Cell) = other ∷ others in
          apart_removed row (removed_rows (delta rows own)) (added_rows (delta rows own)) (each_added (λ next. row_cmp row next ≡ Less) rows own (e, before_through row other others e up.0)) (all own up)
      | Equal ↦ λ e. all others up.1
      | Greater ↦ λ e.
          let lines : List Signed = delta_from row (delta rows) others in
          let first : row_cmp other row ≡ Less = turned row other e in
          apart_added other (removed_rows lines) (added_rows lines) (each_removed (λ next. row_cmp other next ≡ Less) (row ∷ rows) others (first, before_through other row rows first low)) (apart_from row rows low all others up.1)
    ] refl

apart : (rows others : List (List Cell)) → Ascends rows → Ascends others → IsApart (delta rows others)
apart [] others up up' = λ row is also. let none = subst (λ (rows : List (List Cell)). Contains rows row) (none_removed others) is in absurd (omega (arith, none.1))
apart (row ∷ rows) others up up' = apart_from row rows up.0 (λ more. apart rows more up.1) others up'

pub no_row_twice : (rows others : List (List Cell)) → IsSorted row_cmp rows → IsSorted row_cmp others → (row : List Cell) → Contains (removed_rows (delta rows others)) row → Contains (added_rows (delta rows others)) row → ⊥
no_row_twice rows others sorted sorted' = apart rows others (ascends rows sorted) (ascends others sorted')
