-- Of the contracts of `read_sheet` and `write_script`, and of the law `batches_hold_the_rows`: valid sheets, rows that a script can have, its batches, and what
-- a call returns whose definition gives a value or a fault.
use Rattle.std.specs.Prelude.{List, [], ◌∷◌, ◌≡◌, ◌⊎◌, ◌<◌, ◌≤◌, ℕ, Bool, true, false, ◌&&◌, length, map, Result, Ok, Err}
use Rattle.std.specs.List.{flat_map, IsDistinct, list_all}
use Rattle.std.specs.Str.{bytes_eq}
use Rattle.gp_base.specs.CellForms.{ArePlain}
use Rattle.gp_base.specs.Names.{is_name}
use Rattle.gp_base.specs.declared.cell.Cell.{Cell}
use Rattle.gp_base.specs.declared.table.Column.{Column}
use Rattle.gp_grammar.specs.declared.limits.TheConstants.{MAX_COLUMNS, MAX_LINE_LENGTH, MAX_VALUES}
use Rattle.gp_grammar.specs.Syntax.{insert}
pub use Rattle.gp_csv.specs.Titled.{is_cell_of}
use Rattle.gp_csv.specs.Scripts.{Row, session_line}
use Rattle.gp_csv.specs.declared.sheet.Sheet.{Sheet}
use Rattle.gp_csv.specs.declared.error.CsvStop.{CsvStop}
use Rattle.gp_csv.specs.declared.error.CsvStop.TheVariants.{Refused, NoMemory}
use Rattle.gp_csv.specs.Faults.{Fault, refuse}

-- the cells of each row are ones that a table can hold
abbrev pub ArePlainRows : List Row → Type 0
ArePlainRows [] = Unit {0}
ArePlainRows (row ∷ rows) = ArePlain row × ArePlainRows rows

-- the rows of the batches
abbrev pub rows_in : List (List Row) → List Row
rows_in batches = flat_map (λ (batch : List Row). batch) batches

-- the line of an INSERT of these rows would have too many rows, or be too long
abbrev pub PassesLimit : List ℕ → List Row → Type 0
PassesLimit name batch = (MAX_VALUES < length batch) ⊎ (MAX_LINE_LENGTH < length (session_line (insert name batch)))

abbrev pub column_names : List Column → List (List ℕ)
column_names columns = map (λ (column : Column). column.name) columns

-- a cell for each column
abbrev pub is_row_of : List Column → List Cell → Bool
is_row_of [] [] = true
is_row_of (column ∷ columns) (cell ∷ cells) = is_cell_of column.kind cell && is_row_of columns cells
is_row_of columns cells = false

-- a sheet that can be a table: 1 to MAX_COLUMNS columns, whose names are names and differ, and rows of these columns
pub record IsSheet (sheet : Sheet) : Type 0 where
  pub some : 0 < length sheet.cols
  pub few : length sheet.cols ≤ MAX_COLUMNS
  pub names : list_all is_name (column_names sheet.cols) ≡ true
  pub different : IsDistinct bytes_eq (column_names sheet.cols)
  pub rows : list_all (is_row_of sheet.cols) sheet.rows ≡ true

-- the call returns the expected value, under this view of values, or the expected fault; running out of memory says nothing
abbrev pub Returns : {X A : Type 0} → (X → A) → Result X CsvStop → Result A Fault → Type 0
Returns view (Ok x) expected = expected ≡ Ok (view x)
Returns view (Err (Refused c number)) expected = expected ≡ refuse c number
Returns view (Err NoMemory) expected = Unit {0}
