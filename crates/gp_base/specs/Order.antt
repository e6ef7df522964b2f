-- Part of the statement: the order of cells and rows, and a sorted list. Rows compare cell by cell, as row values of SQL do (ISO/IEC
-- 9075-2). SQL leaves the place of NULL and the collation of texts to the implementation: here NULL is first, and texts compare by bytes.
use Rattle.std.specs.Prelude.{List, [], ◌∷◌, if◌then◌else◌}
use Rattle.std.specs.declared.cmp.Ordering.{Ordering}
use Rattle.std.specs.declared.cmp.Ordering.TheVariants.{Less, Equal, Greater}
use Rattle.std.specs.Ordering.{nat_cmp, int_cmp, bool_cmp, is_le}
use Rattle.std.specs.Cmp.Lexicographic.{slice_cmp}
use Rattle.gp_base.specs.declared.cell.Cell.{Cell}
use Rattle.gp_base.specs.declared.cell.Cell.TheVariants.{Null, Int, Text, Id, Mark, Mono}
use Rattle.gp_base.specs.Identities.{identity_cmp}
use Rattle.gp_base.specs.Tokens.{monomial_cmp}

-- by kind, in the order NULL, numbers, texts, identities, marks, monomials; then by value
abbrev pub cell_cmp : Cell → Cell → Ordering
cell_cmp Null Null = Equal
cell_cmp Null other = Less
cell_cmp cell Null = Greater
cell_cmp (Int n) (Int m) = int_cmp n m
cell_cmp (Int n) other = Less
cell_cmp cell (Int m) = Greater
cell_cmp (Text s) (Text t) = slice_cmp nat_cmp s t
cell_cmp (Text s) other = Less
cell_cmp cell (Text t) = Greater
cell_cmp (Id a) (Id b) = identity_cmp a b
cell_cmp (Id a) other = Less
cell_cmp cell (Id b) = Greater
cell_cmp (Mark x) (Mark y) = bool_cmp x y
cell_cmp (Mark x) (Mono q) = Less
cell_cmp (Mono p) (Mark y) = Greater
cell_cmp (Mono p) (Mono q) = monomial_cmp p q

-- rows compare lexicographically: a proper prefix is less
abbrev pub row_cmp : List Cell → List Cell → Ordering
row_cmp = slice_cmp cell_cmp

-- the item inserted before the first item of a list that it does not exceed
abbrev pub insert_sorted : {T : Type 0} → (T → T → Ordering) → T → List T → List T
insert_sorted cmp item [] = item ∷ []
insert_sorted cmp item (other ∷ others) = if is_le (cmp item other) then item ∷ other ∷ others else other ∷ insert_sorted cmp item others

-- the items in ascending order, each as often as it occurs: insertion sort
abbrev pub sorted_by : {T : Type 0} → (T → T → Ordering) → List T → List T
sorted_by cmp [] = []
sorted_by cmp (item ∷ items) = insert_sorted cmp item (sorted_by cmp items)
