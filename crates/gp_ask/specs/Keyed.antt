-- Machinery: what a statement changed, as the code computes it: rows with their identities and their marks behind their cells, which are sorted by their
-- identities and then by their places.
use Rattle.std.specs.Prelude.{ℕ, suc, ◌-◌, pos, Bool, true, List, [], ◌∷◌, ◌++◌, drop, length, take, Option, Some, None, slice_get, if◌then◌else◌}
use Rattle.std.specs.List.{flat_map, list_all}
use Rattle.gp_base.specs.declared.cell.Cell.{Cell}
use Rattle.gp_base.specs.declared.cell.Cell.TheVariants as cell
use Rattle.gp_base.specs.Identities.{Identity}
use Rattle.gp_base.specs.Order.{row_cmp, sorted_by}
use Rattle.gp_algebra.specs.Statements.{Statement, update}
use Rattle.gp_txn.specs.Changes.{set_is_simple}
use Rattle.gp_compose.specs.Seen.{is_changed_by}
use Rattle.gp_ask.specs.ChangeForms.{after_of, before_of}
use Rattle.gp_ask.specs.Changes.{change_text}

abbrev pub as_identity : Option Cell → Option Identity
as_identity (Some (cell.Id id)) = Some id
as_identity other = None

-- the identity of a row that has its identity and its mark behind its cells, and its cells without both
abbrev pub identity_of : List Cell → Option Identity
identity_of row = as_identity (slice_get row (length row - 2))

abbrev pub cells_of : List Cell → List Cell
cells_of row = take (length row - 2) row

abbrev pub keyed : ℕ → List Cell → Identity → List Cell
keyed place row id = cell.Id id ∷ cell.Int (pos place) ∷ cells_of row

module _ (t k : ℕ) (statement : Statement) where
  -- the row, if the statement changed it
  abbrev pub keyed_if : ℕ → List Cell → Option Identity → List (List Cell)
  keyed_if place row None = []
  keyed_if place row (Some id) = if is_changed_by t k statement id then keyed place row id ∷ [] else []

  -- the rows that it changed, of these, whose first one has this place
  abbrev pub keyed_from : ℕ → List (List Cell) → List (List Cell)
  keyed_from place [] = []
  keyed_from place (row ∷ rows) = keyed_if place row (identity_of row) ++ keyed_from (suc place) rows

-- what an UPDATE sets makes no identities
abbrev pub sets_are_simple : Statement → Bool
sets_are_simple (update table sets cond) = list_all set_is_simple sets
sets_are_simple statement = true

-- the identity that a row begins with
abbrev pub key_of : List Cell → Option Identity
key_of row = as_identity (slice_get row 0)

-- the line of a row behind its key, if it has one
abbrev pub keyed_line : List ℕ → Statement → Option Identity → List Cell → List (List ℕ)
keyed_line name statement None cells = []
keyed_line name statement (Some id) cells = change_text name id (before_of statement cells) (after_of statement cells) ∷ []

abbrev pub keyed_lines : List ℕ → Statement → List Cell → List (List ℕ)
keyed_lines name statement row = keyed_line name statement (key_of row) (drop 2 row)

-- the lines of the rows that a statement changed
abbrev pub shown_texts : List ℕ → ℕ → ℕ → Statement → List (List Cell) → List (List ℕ)
shown_texts name t k statement rows = flat_map (keyed_lines name statement) (sorted_by row_cmp (keyed_from t k statement 0 rows))
