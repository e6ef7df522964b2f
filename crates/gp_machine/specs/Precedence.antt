-- Part of the statement: which transactions of a history come before which others, whatever their order in time. One comes before another where it read what
-- was before the other's commit, where the other read what its own commit had made, or where both wrote a row (Adya, Liskov and O'Neil, ICDE 2000: the dependencies
-- of a direct serialization graph, with predicate reads).
use Rattle.std.specs.Prelude.{ℕ, suc, zero, ◌==◌, ◌&&◌, ◌||◌, nat_le, nat_lt, not, Bool, true, false, List, [], ◌∷◌, ◌++◌, filter, length, map, Option, Some, slice_get, if◌then◌else◌}
use Rattle.std.specs.List.{flat_map, list_any}
use Rattle.std.specs.Option.{option_map_or}
use Rattle.std.specs.Ordering.{is_eq}
use Rattle.gp_base.specs.declared.cell.Cell.{Cell}
use Rattle.gp_base.specs.declared.table.Table.{Table}
use Rattle.gp_base.specs.Identities.{same_identity}
use Rattle.gp_base.specs.Order.{cell_cmp}
use Rattle.gp_machine.specs.Entries.{Entry, committer_of, statement_at, statement_count, statement_version}
use Rattle.gp_machine.specs.Looks.{Look, looks, sees}
use Rattle.gp_machine.specs.RowChanges.{RowChange}

-- NULL and NULL are equal
abbrev pub cell_differs : Option Cell → Option Cell → Bool
cell_differs (Some cell) (Some other) = not (is_eq (cell_cmp cell other))
cell_differs cell other = false

-- the cells of some of these columns differ, or the row is missing before or after
abbrev pub side_differs_in : List ℕ → Option (List Cell) → Option (List Cell) → Bool
side_differs_in columns (Some cells) (Some others) = list_any (λ column. cell_differs (slice_get cells column) (slice_get others column)) columns
side_differs_in columns before after = true

-- a statement looks at a row that was changed, by its cells before or after, and uses a column that was changed
abbrev pub meets : RowChange → Look → Bool
meets change look =
    (change.row.table == look.table)
    && (side_differs_in look.columns change.before change.after && (option_map_or (sees look) change.before false || option_map_or (sees look) change.after false))

abbrev pub same_row : RowChange → RowChange → Bool
same_row change other = (change.row.table == other.row.table) && same_identity change.row.identity other.row.identity

-- the numbers from 1 to this one
abbrev pub numbers : ℕ → List ℕ
numbers zero = []
numbers (suc n) = numbers n ++ suc n ∷ []

-- why a transaction comes before another one
pub data Reason : Type 0 where
  -- its statement of this number looks at a row that the other wrote, and read a version before that
  ReadBefore : ℕ → RowChange → Reason
  -- the other's statement of this number looks at a row that it wrote, and read its version or a later one
  ReadAfter : ℕ → RowChange → Reason
  -- it wrote a row in a lesser version than the other
  Wrote : RowChange → RowChange → Reason

module _ (tables : List Table) (entries : List Entry) (changes : List RowChange) where
  -- the rows that a transaction wrote, in the order of the changes
  abbrev pub changes_by : ℕ → List RowChange
  changes_by t = filter (λ (change : RowChange). committer_of change.version entries == t) changes

  -- of these, the rows that statement k of a transaction looks at
  abbrev pub looked_at : ℕ → ℕ → List RowChange → List RowChange
  looked_at t k = filter (λ change. list_any (meets change) (option_map_or (looks tables) (statement_at t k entries) []))

  abbrev pub read_before : ℕ → ℕ → List Reason
  read_before a b =
      flat_map (λ k. map (ReadBefore k) (looked_at a k (filter (λ (change : RowChange). nat_lt (statement_version a k entries) change.version) (changes_by b))))
      (numbers (statement_count a entries))

  abbrev pub read_after : ℕ → ℕ → List Reason
  read_after a b =
      flat_map (λ k. map (ReadAfter k) (looked_at b k (filter (λ (change : RowChange). nat_le change.version (statement_version b k entries)) (changes_by a))))
      (numbers (statement_count b entries))

  abbrev pub wrote_before : ℕ → ℕ → List Reason
  wrote_before a b =
      flat_map (λ (change : RowChange). map (Wrote change) (filter (λ (other : RowChange). same_row change other && nat_lt change.version other.version) (changes_by b)))
      (changes_by a)

  -- the reasons, the first of which is shown
  abbrev pub reasons : ℕ → ℕ → List Reason
  reasons a b = if a == b then [] else read_before a b ++ (read_after a b ++ wrote_before a b)

  abbrev pub is_before : ℕ → ℕ → Bool
  is_before a b = nat_lt 0 (length (reasons a b))
