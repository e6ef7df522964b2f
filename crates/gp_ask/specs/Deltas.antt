-- Part of the statement: the difference of two bags of rows, each a list in row order: a row as often as it is more often in the one than in the other, with a
-- sign.
use Rattle.std.specs.Prelude.{Bool, true, false, List, [], ◌∷◌, ◌++◌, Contains, filter, map, not, codes}
use Rattle.std.specs.FinMap.Entries.{by_order}
use Rattle.std.specs.List.Sorted.{IsPermutation, IsSorted}
use Rattle.gp_base.specs.declared.cell.Cell.{Cell}
use Rattle.gp_base.specs.declared.cell.Cell.TheVariants as cell
use Rattle.gp_base.specs.Order.{row_cmp}

-- a row that is more often in the first bag, and one that is more often in the second
pub data Signed : Type 0 where
  removed added : List Cell → Signed

-- a row of the first list beside the second list, where `rest` gives the difference of what follows the row
abbrev pub delta_from : List Cell → (List (List Cell) → List Signed) → List (List Cell) → List Signed
delta_from row rest [] = removed row ∷ rest []
delta_from row rest (other ∷ others) = by_order (row_cmp row other) (removed row ∷ rest (other ∷ others)) (rest others) (added other ∷ delta_from row rest others)

-- in row order: a row of either list that the other one does not have at its place
abbrev pub delta : List (List Cell) → List (List Cell) → List Signed
delta [] others = map added others
delta (row ∷ rows) others = delta_from row (delta rows) others

-- ---- the lines of a difference

abbrev pub is_removed : Signed → Bool
is_removed (removed row) = true
is_removed (added row) = false

-- the row behind its sign
abbrev pub with_sign : Signed → List Cell
with_sign (removed row) = cell.Text (codes "-") ∷ row
with_sign (added row) = cell.Text (codes "+") ∷ row

-- ---- what it says

abbrev pub signed_row : Signed → List Cell
signed_row (removed row) = row
signed_row (added row) = row

-- the rows with a minus, and those with a plus
abbrev pub removed_rows : List Signed → List (List Cell)
removed_rows lines = map signed_row (filter is_removed lines)

abbrev pub added_rows : List Signed → List (List Cell)
added_rows lines = map signed_row (filter (λ (line : Signed). not (is_removed line)) lines)

-- The first bag without the rows that have a minus, and with those that have a plus, is the second; no row has both signs; and the lines are in row order.
pub record IsDifference (rows others : List (List Cell)) (lines : List Signed) : Type 0 where
  pub bags : IsPermutation (rows ++ added_rows lines) (others ++ removed_rows lines)
  pub signs : (row : List Cell) → Contains (removed_rows lines) row → Contains (added_rows lines) row → ⊥
  pub order : IsSorted row_cmp (map signed_row lines)
