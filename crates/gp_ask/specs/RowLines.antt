-- Machinery: lines of rows, as the code sorts them: each behind its table, its identity, and its place among all, by which those of one identity keep their order.
use Rattle.std.specs.Prelude.{ℕ, suc, ◌&&◌, ◌-◌, nat_lt, pos, Bool, false, List, [], ◌∷◌, ◌++◌, length, map, take, Option, Some, None, slice_get, if◌then◌else◌}
use Rattle.std.specs.List.{flat_map}
use Rattle.std.specs.Option.{option_map_or, option_to_list}
use Rattle.std.specs.Ordering.{is_eq, on}
use Rattle.std.specs.declared.cmp.Ordering.{Ordering}
use Rattle.gp_base.specs.declared.cell.Cell.{Cell}
use Rattle.gp_base.specs.declared.cell.Cell.TheVariants as cell
use Rattle.gp_base.specs.declared.limit.TheConstants.{MAX_ANSWER_ROWS}
use Rattle.gp_base.specs.Identities.{Identity}
use Rattle.gp_base.specs.declared.refusal.Refusal.TheVariants.{E27}
use Rattle.gp_base.specs.Order.{cell_cmp, row_cmp, sorted_by}
use Rattle.gp_algebra.specs.Effects.{Written}
use Rattle.gp_machine.specs.Conflicts.{written_cmp}
use Rattle.gp_ask.specs.declared.answered.Answered.{Answered}
use Rattle.gp_ask.specs.declared.answered.Answered.TheVariants.{Lines, Refused}
use Rattle.gp_ask.specs.declared.answered.Heading.{Heading}

-- a line of a row
abbrev pub RowLine : Type 0
RowLine = Written × List ℕ

abbrev pub row_line : ℕ → Identity → List ℕ → RowLine
row_line table id text = (record { table = table; identity = id }, text)

abbrev pub line_cmp : RowLine → RowLine → Ordering
line_cmp = on (λ (line : RowLine). line.0) written_cmp

-- ---- as rows

abbrev pub keyed_line : ℕ → RowLine → List Cell
keyed_line place line = cell.Int (pos line.0.table) ∷ cell.Id line.0.identity ∷ cell.Int (pos place) ∷ cell.Text line.1 ∷ []

-- the first one has this place
abbrev pub keyed_from : ℕ → List RowLine → List (List Cell)
keyed_from place [] = []
keyed_from place (line ∷ lines) = keyed_line place line ∷ keyed_from (suc place) lines

-- ---- what is made of sorted rows

-- the text that a row ends with
abbrev pub as_text : Option Cell → Option (List ℕ)
as_text (Some (cell.Text text)) = Some text
as_text other = None

abbrev pub text_of : List Cell → Option (List ℕ)
text_of row = as_text (slice_get row (length row - 1))

abbrev pub row_texts : List (List Cell) → List (List ℕ)
row_texts rows = flat_map (λ row. option_to_list (text_of row)) rows

-- the answer of these texts
abbrev pub listed : Heading → List (List Cell) → Answered
listed heading rows = if nat_lt MAX_ANSWER_ROWS (length rows) then Refused E27 else Lines heading (row_texts (sorted_by row_cmp rows))

-- two rows of one table and one identity
abbrev pub is_same_cell : Option Cell → Option Cell → Bool
is_same_cell None other = false
is_same_cell (Some first) None = false
is_same_cell (Some first) (Some second) = is_eq (cell_cmp first second)

abbrev pub same_key : List Cell → List Cell → Bool
same_key row other = is_same_cell (slice_get row 0) (slice_get other 0) && is_same_cell (slice_get row 1) (slice_get other 1)

abbrev pub is_again : Option (List Cell) → List Cell → Bool
is_again last row = option_map_or (λ before. same_key before row) last false

-- the text of a row that is not of the one before it
abbrev pub first_text : Option (List Cell) → List Cell → List (List ℕ)
first_text last row = if is_again last row then [] else option_to_list (text_of row)

-- the texts of such rows; the first one is behind this row
abbrev pub first_texts : Option (List Cell) → List (List Cell) → List (List ℕ)
first_texts last [] = []
first_texts last (row ∷ rows) = first_text last row ++ first_texts (Some row) rows

-- ---- what they stand for

abbrev pub sorted_texts : List RowLine → List (List ℕ)
sorted_texts lines = map (λ (line : RowLine). line.1) (sorted_by line_cmp lines)

-- no more of them than tell that there are too many
abbrev pub few : {A : Type 0} → List A → List A
few items = take (suc MAX_ANSWER_ROWS) items
