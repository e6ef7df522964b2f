-- The sums at rows are the distinct rows in row order, each with its sum.
use Rattle.std.proofs.Common.{◌≡◌, refl, sym, ap, ◌∙◌, subst, T, cond, Bool, true, false, List, [], ◌∷◌, map, Some, None}
use Rattle.std.specs.Prelude.{◌&&◌}
use Rattle.std.specs.Option.{option_map}
use Rattle.std.specs.Ordering.{eq_by_cmp, is_lt}
use Rattle.std.specs.declared.cmp.Ordering.TheVariants.{Less, Equal, Greater}
use Rattle.std.specs.FinMap.{find, is_sorted}
use Rattle.std.specs.FinMap.Entries.{below_all, by_order, same_entries}
use Rattle.std.specs.List.{list_any}
use Rattle.gp_base.specs.declared.cell.Cell.{Cell}
use Rattle.gp_base.specs.Order.{row_cmp}
use Rattle.gp_base.specs.RowOrder.{exact_rows, row_cmp_total}
use Rattle.gp_semiring.specs.SumLaws.{equal, is_sorted-summed}
use Rattle.gp_semiring.specs.Sums.{added, summed}
use Rattle.gp_semiring.specs.SumForms.{Each}
use Rattle.gp_semiring.specs.Totals.{total_at}
use Rattle.gp_semiring.proofs.TotalLemmas.{find-summed}
use Rattle.gp_semiring.specs.Witnesses.{placed}
use Rattle.gp_history.specs.DistinctRows.{distinct_rows}

-- the rows of pairs
abbrev pub rows_of : {K : Type 0} → List (List Cell × K) → List (List Cell)
rows_of pairs = map (λ pair. pair.0) pairs

module _ {K : Type 0} (plus : K → K → K) where
  rows_added : (row : List Cell) (a : K) (pairs : List (List Cell × K)) → rows_of (added row_cmp plus row a pairs) ≡ placed row_cmp row (rows_of pairs)
  rows_added row a [] = refl
  rows_added row a (pair ∷ pairs) =
      elim (row_cmp row pair.0) as (λ o. rows_of (by_order o ((row, a) ∷ pair ∷ pairs) ((pair.0, plus a pair.1) ∷ pairs) (pair ∷ added row_cmp plus row a pairs))
      ≡ by_order o (row ∷ pair.0 ∷ rows_of pairs) (pair.0 ∷ rows_of pairs) (pair.0 ∷ placed row_cmp row (rows_of pairs))) [
        | Less ↦ refl
        | Equal ↦ refl
        | Greater ↦ ap (λ rows. pair.0 ∷ rows) (rows_added row a pairs)
      ]

  pub rows_summed : (pairs : List (List Cell × K)) → rows_of (summed row_cmp plus pairs) ≡ distinct_rows (rows_of pairs)
  rows_summed [] = refl
  rows_summed (pair ∷ pairs) = rows_added pair.0 pair.1 (summed row_cmp plus pairs) ∙ ap (placed row_cmp pair.0) (rows_summed pairs)

module _ {K : Type 0} (f : List Cell → K) where
  -- the rows of pairs, each with its value by f
  abbrev by_row : List (List Cell × K) → List (List Cell × K)
  by_row pairs = map (λ row. (row, f row)) (rows_of pairs)

  below_by : (row : List Cell) (pairs : List (List Cell × K)) → below_all row_cmp row (by_row pairs) ≡ below_all row_cmp row pairs
  below_by row [] = refl
  below_by row (pair ∷ pairs) = ap (λ b. is_lt (row_cmp row pair.0) && b) (below_by row pairs)

  sorted_by : (pairs : List (List Cell × K)) → is_sorted row_cmp (by_row pairs) ≡ is_sorted row_cmp pairs
  sorted_by [] = refl
  sorted_by (pair ∷ pairs) = λ i. below_by pair.0 pairs i && sorted_by pairs i

  find_by : (row : List Cell) (pairs : List (List Cell × K)) → find row_cmp row (by_row pairs) ≡ option_map (λ a. f row) (find row_cmp row pairs)
  find_by row [] = refl
  find_by row (pair ∷ pairs) =
      elim (eq_by_cmp row_cmp row pair.0) as (λ b. eq_by_cmp row_cmp row pair.0 ≡ b → cond b (Some (f pair.0)) (find row_cmp row (by_row pairs)) ≡ option_map (λ a. f row) (cond b (Some pair.1) (find row_cmp row pairs))) [
        | true ↦ λ e. ap (λ own. Some (f own)) (sym (exact_rows row pair.0 (equal (row_cmp row pair.0) (subst T (sym e) tt))))
        | false ↦ λ e. find_by row pairs
      ] refl

module _ {K : Type 0} (element : K → Type 0) (zero_of : K) (plus : K → K → K) (plus_zero : (a : K) → element a → plus a zero_of ≡ a) where
  pub summed_totals : (pairs : List (List Cell × K)) → Each (λ pair. element pair.1) pairs → summed row_cmp plus pairs ≡ map (λ row. (row, total_at row_cmp zero_of plus row pairs)) (distinct_rows (rows_of pairs))
  summed_totals pairs are =
      same_entries row_cmp row_cmp_total exact_rows (summed row_cmp plus pairs) (by_row f (summed row_cmp plus pairs)) sorted (subst T (sym (sorted_by f (summed row_cmp plus pairs))) sorted) same
      ∙ ap (map (λ row. (row, f row))) (rows_summed plus pairs)
    where
      f : List Cell → K
      f row = total_at row_cmp zero_of plus row pairs

      sorted : T (is_sorted row_cmp (summed row_cmp plus pairs))
      sorted = is_sorted-summed row_cmp plus row_cmp_total pairs

      either : (b : Bool) (a : K) → cond b (Some a) None ≡ option_map (λ other. a) (cond b (Some a) None)
      either true a = refl
      either false a = refl

      same : (row : List Cell) → find row_cmp row (summed row_cmp plus pairs) ≡ find row_cmp row (by_row f (summed row_cmp plus pairs))
      same row =
          let found = find-summed row_cmp row_cmp_total exact_rows element zero_of plus plus_zero row pairs are in
          found ∙ either (list_any (λ (pair : List Cell × K). eq_by_cmp row_cmp row pair.0) pairs) (f row) ∙ ap (option_map (λ a. f row)) (sym found) ∙ sym (find_by f row (summed row_cmp plus pairs))
