-- A listing is its occurrences put together, and its rows ascend.
use Rattle.std.proofs.Common.{◌≡◌, ℕ, zero, suc, refl, sym, ap, subst, ◌∙◌, arith, T, Bool, true, false, cond, add-one, append_assoc, List, [], ◌∷◌, ◌++◌, length, map, take, inl, inr}
use Rattle.std.specs.Prelude.{◌-◌}
use Rattle.std.specs.List.Sorted.{IsSorted}
use Rattle.std.specs.Ordering.{is_eq, is_le, is_lt, ordering_reverse, ordering_then}
use Rattle.std.specs.FinMap.{is_sorted}
use Rattle.std.specs.FinMap.Entries.{below_all}
use Rattle.std.specs.declared.cmp.Ordering.{Ordering}
use Rattle.std.specs.declared.cmp.Ordering.TheVariants.{Less, Equal, Greater}
use Rattle.std.proofs.lemmas.Bool.{cases_Bool}
use Rattle.std.proofs.lemmas.List.{map-append}
use Rattle.gp_base.specs.declared.cell.Cell.{Cell}
use Rattle.gp_base.specs.Order.{cell_cmp, insert_sorted, row_cmp, sorted_by}
use Rattle.gp_base.specs.RowOrder.{exact_rows, row_cmp_total}
use Rattle.gp_base.specs.Tokens.{Monomial}
use Rattle.gp_base.proofs.OrderLemmas.{rows_sorted}
use Rattle.gp_semiring.specs.declared.listed.Listed.{Listed}
use Rattle.gp_semiring.specs.Listing.{cells_of, grouped, grouped_after, has_cells, listed, monomial_of}
use Rattle.gp_semiring.specs.ListingForms.{occurrence, occurrences, rows_of}
use Rattle.gp_semiring.specs.SumForms.{Each}
use Rattle.gp_semiring.specs.SumLaws.{below_less, both, equal, first, is_true_of}
use Rattle.gp_semiring.specs.WitnessForms.{IsRising, tagged}

abbrev Cells : Type 0
Cells = List Cell

-- ---- the occurrences

of_one : (b : Bool) → b ≡ true → T b
of_one true e = tt
of_one false e = cc

same_cells : (cells row : Cells) → has_cells cells row ≡ true → cells ≡ cells_of row
same_cells cells row e = exact_rows cells (cells_of row) (equal (row_cmp cells (cells_of row)) (of_one (has_cells cells row) e))

occurrences_after : (cells : Cells) (monomials : List Monomial) (rows : List Cells)
    → occurrences (grouped_after cells monomials rows) ≡ map (λ (m : Monomial). (cells, m)) monomials ++ map occurrence rows
occurrences_after cells monomials [] = refl
occurrences_after cells monomials (row ∷ rows) =
    let m : Monomial = monomial_of row in
    let own : List Monomial → List (Cells × Monomial) = λ ms. map (λ (n : Monomial). (cells, n)) ms in
    let more : List Listed = grouped_after cells (monomials ++ m ∷ []) rows in
    let next : List Listed = record { row = cells; monomials = monomials } ∷ grouped_after (cells_of row) (m ∷ []) rows in
    elim (cases_Bool (has_cells cells row)) [
      | inl same ↦
          ap (λ (b : Bool). occurrences (cond b more next)) same
          ∙ occurrences_after cells (monomials ++ m ∷ []) rows
          ∙ ap (λ (t : List (Cells × Monomial)). t ++ map occurrence rows) (map-append (λ (n : Monomial). (cells, n)) monomials (m ∷ []))
          ∙ append_assoc (own monomials) (own (m ∷ [])) (map occurrence rows)
          ∙ ap (λ (c : Cells). own monomials ++ (c, m) ∷ map occurrence rows) (same_cells cells row same)
      | inr other ↦
          ap (λ (b : Bool). occurrences (cond b more next)) other
          ∙ ap (λ (t : List (Cells × Monomial)). own monomials ++ t) (occurrences_after (cells_of row) (m ∷ []) rows)
    ]

occurrences_grouped : (rows : List Cells) → occurrences (grouped rows) ≡ map occurrence rows
occurrences_grouped [] = refl
occurrences_grouped (row ∷ rows) = occurrences_after (cells_of row) (monomial_of row ∷ []) rows

pub occurrences_listed : (rows : List Cells) → occurrences (listed rows) ≡ map occurrence (sorted_by row_cmp rows)
occurrences_listed rows = occurrences_grouped (sorted_by row_cmp rows)

-- ---- the order

-- what is said of each item is said of each sorted item
each_inserted : (P : Cells → Type 0) (row : Cells) (rows : List Cells) → P row → Each P rows → Each P (insert_sorted row_cmp row rows)
each_inserted P row [] p all = (p, tt)
each_inserted P row (other ∷ others) p all =
    elim (is_le (row_cmp row other)) as (λ b. Each P (cond b (row ∷ other ∷ others) (other ∷ insert_sorted row_cmp row others))) [
      | true ↦ (p, all)
      | false ↦ (all.0, each_inserted P row others p all.1)
    ]

each_sorted : (P : Cells → Type 0) (rows : List Cells) → Each P rows → Each P (sorted_by row_cmp rows)
each_sorted P [] all = tt
each_sorted P (row ∷ rows) all = each_inserted P row (sorted_by row_cmp rows) all.0 (each_sorted P rows all.1)

-- where the first cells are less, so is the row
then_less : (r s t : Ordering) → (s ≡ Less → t ≡ Less) → ordering_then r s ≡ Less → ordering_then r t ≡ Less
then_less Less s t next e = refl
then_less Equal s t next e = next e
then_less Greater s t next e = cc

prefix_less : (k : ℕ) (a b : Cells) → row_cmp (take k a) (take k b) ≡ Less → row_cmp a b ≡ Less
prefix_less zero a b e = cc
prefix_less (suc k) [] [] e = cc
prefix_less (suc k) [] (y ∷ ys) e = refl
prefix_less (suc k) (x ∷ xs) [] e = cc
prefix_less (suc k) (x ∷ xs) (y ∷ ys) e = then_less (cell_cmp x y) (row_cmp (take k xs) (take k ys)) (row_cmp xs ys) (prefix_less k xs ys) e

-- no row is less than the one before it
abbrev Follow : Cells → List Cells → Type 0
Follow cells [] = Unit {0}
Follow cells (row ∷ rows) = (is_lt (row_cmp (cells_of row) cells) ≡ false) × Follow (cells_of row) rows

not_less : (r : Ordering) → (r ≡ Less → ⊥) → is_lt r ≡ false
not_less Less never = absurd (never refl)
not_less Equal never = refl
not_less Greater never = refl

lt_less : (r : Ordering) → is_lt r ≡ false → r ≡ Less → ⊥
lt_less Less e is = cc
lt_less Equal e is = cc
lt_less Greater e is = cc

cells_follow : (width : ℕ) (a b : Cells) → length a ≡ width → length b ≡ width → is_lt (row_cmp b a) ≡ false → is_lt (row_cmp (cells_of b) (cells_of a)) ≡ false
cells_follow width a b wa wb e =
    not_less (row_cmp (cells_of b) (cells_of a)) (λ less.
    let k = subst (λ (n : ℕ). row_cmp (take (n - 1) b) (cells_of a) ≡ Less) wb less in
    let l = subst (λ (n : ℕ). row_cmp (take (width - 1) b) (take (n - 1) a) ≡ Less) wa k in
    lt_less (row_cmp b a) e (prefix_less (width - 1) b a l))

follow : (width : ℕ) (row : Cells) (rows : List Cells) → IsSorted row_cmp (row ∷ rows) → Each (λ (one : Cells). length one ≡ width) (row ∷ rows) → Follow (cells_of row) rows
follow width row [] sorted all = tt
follow width row (other ∷ others) sorted all = (
  cells_follow width row other all.0 all.1.0 (sorted 0 row (omega arith) (omega arith)),
  follow width other others (λ k d low high. rw add-one (simp add-one at (sorted (suc k) d (omega arith) (omega arith)))) all.1,
)

-- of rows that follow one another, another row is greater
greater : (cells other : Cells) → is_eq (row_cmp cells other) ≡ false → is_lt (row_cmp other cells) ≡ false → row_cmp cells other ≡ Less
greater cells other apart least = by (row_cmp cells other) (row_cmp other cells) (row_cmp_total.antisymm cells other) apart least
  where
    by : (r s : Ordering) → r ≡ ordering_reverse s → is_eq r ≡ false → is_lt s ≡ false → r ≡ Less
    by r Less e apart least = cc
    by r Equal e apart least = absurd (equal_apart r e apart)
      where
        equal_apart : (r : Ordering) → r ≡ Equal → is_eq r ≡ false → ⊥
        equal_apart Less e p = cc
        equal_apart Equal e p = cc
        equal_apart Greater e p = cc
    by r Greater e apart least = e

less_lt : (r : Ordering) → r ≡ Less → T (is_lt r)
less_lt Less e = tt
less_lt Equal e = cc
less_lt Greater e = cc

-- a listing whose first row is this one
record Rises (cells : Cells) (listing : List Listed) : Type 0 where
  rest : List Cells
  are : rows_of listing ≡ cells ∷ rest
  rising : T (is_sorted row_cmp (tagged (cells ∷ rest)))

rising_after : (cells : Cells) (monomials : List Monomial) (rows : List Cells) → Follow cells rows → Rises cells (grouped_after cells monomials rows)
rising_after cells monomials [] all = record { rest = []; are = refl; rising = tt }
rising_after cells monomials (row ∷ rows) all =
    let m : Monomial = monomial_of row in
    let more : List Listed = grouped_after cells (monomials ++ m ∷ []) rows in
    let next : List Listed = record { row = cells; monomials = monomials } ∷ grouped_after (cells_of row) (m ∷ []) rows in
    elim (cases_Bool (has_cells cells row)) [
      | inl same ↦
          subst (λ (b : Bool). Rises cells (cond b more next)) (sym same)
          (rising_after cells (monomials ++ m ∷ []) rows (subst (λ (c : Cells). Follow c rows) (sym (same_cells cells row same)) all.1))
      | inr other ↦
          subst (λ (b : Bool). Rises cells (cond b more next)) (sym other)
          (let x = rising_after (cells_of row) (m ∷ []) rows all.1 in
          let less = greater cells (cells_of row) other all.0 in
          let tail : List (Cells × Unit {0}) = tagged x.rest in
          record {
            rest = cells_of row ∷ x.rest;
            are = ap (λ (t : List Cells). cells ∷ t) x.are;
            rising =
                both (below_all row_cmp cells ((cells_of row, tt) ∷ tail)) (is_sorted row_cmp ((cells_of row, tt) ∷ tail))
                (both (is_lt (row_cmp cells (cells_of row))) (below_all row_cmp cells tail) (less_lt (row_cmp cells (cells_of row)) less)
                (below_less row_cmp (λ (x y : Unit {0}). x) row_cmp_total cells (cells_of row) tail less (first (below_all row_cmp (cells_of row) tail) (is_sorted row_cmp tail) x.rising)))
                x.rising;
          })
    ]

rising_grouped : (width : ℕ) (rows : List Cells) → IsSorted row_cmp rows → Each (λ (row : Cells). length row ≡ width) rows → IsRising row_cmp (rows_of (grouped rows))
rising_grouped width [] sorted all = refl
rising_grouped width (row ∷ rows) sorted all =
    let x = rising_after (cells_of row) (monomial_of row ∷ []) rows (follow width row rows sorted all) in
    subst (λ (them : List Cells). IsRising row_cmp them) (sym x.are) (is_true_of (is_sorted row_cmp (tagged (cells_of row ∷ x.rest))) x.rising)

pub rising_listed : (width : ℕ) (rows : List Cells) → Each (λ (row : Cells). length row ≡ width) rows → IsRising row_cmp (rows_of (listed rows))
rising_listed width rows all = rising_grouped width (sorted_by row_cmp rows) (rows_sorted rows) (each_sorted (λ (row : Cells). length row ≡ width) rows all)
