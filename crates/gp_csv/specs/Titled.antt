-- Part of the statement: rows that were written under titles are read again as a sheet, with the number of the question in front of each. The type of a column is
-- read off its fields, so the condition is that they tell it: texts that are all numbers or empty are taken for numbers.
use Rattle.std.specs.Prelude.{◌≡◌, ℕ, suc, ◌<◌, ◌≤◌, pos, Bool, true, false, not, ◌&&◌, ◌||◌, List, ◌∷◌, length, map, get_or, Some, Ok}
use Rattle.std.specs.List.{AllByRecursion, IsDistinct, list_all, list_any}
use Rattle.std.specs.Str.{bytes_eq}
use Rattle.gp_base.specs.declared.cell.Cell.{Cell}
use Rattle.gp_base.specs.declared.cell.Cell.TheVariants as cell
use Rattle.gp_base.specs.declared.table.Column.{Column}
use Rattle.gp_base.specs.declared.table.Kind.{Kind}
use Rattle.gp_base.specs.declared.table.Kind.TheVariants as kind
use Rattle.gp_base.specs.Cells.{fits_number, is_user_text}
use Rattle.gp_base.specs.Names.{is_name}
use Rattle.gp_grammar.specs.declared.limits.TheConstants.{MAX_COLUMNS}
use Rattle.gp_csv.specs.Answers.{field_of}
use Rattle.gp_csv.specs.Fields.{is_int_field}
use Rattle.gp_csv.specs.Sheets.{sheet_of}
use Rattle.gp_csv.specs.declared.sheet.Sheet.{Sheet}

-- a cell that a user can write and that a column of this type can hold
abbrev pub is_cell_of : Kind → Cell → Bool
is_cell_of column cell.Null = true
is_cell_of kind.Int (cell.Int number) = fits_number number
is_cell_of kind.Text (cell.Text text) = is_user_text text
is_cell_of column other = false

-- the cells of a column; its places count from 0
abbrev pub column_at : ℕ → List (List Cell) → List Cell
column_at place rows = map (λ (row : List Cell). get_or row place cell.Null) rows

-- numbers, or texts of which one is not empty and no number; NULL may be among both
abbrev pub tells_type : List Cell → Bool
tells_type cells =
    list_all (is_cell_of kind.Int) cells
    || (list_all (is_cell_of kind.Text) cells && list_any (λ (own : Cell). not (is_int_field (Some (field_of own)))) cells)

-- The titles can be those of a table, the first of them that of the number in front. Each row has a cell for each of the others, and each column tells its type.
pub record AreReloadable (titles : List (List ℕ)) (rows : List (List Cell)) : Type 0 where
  pub few : length titles ≤ MAX_COLUMNS
  pub names : list_all is_name titles ≡ true
  pub different : IsDistinct bytes_eq titles
  pub wide : AllByRecursion (λ (row : List Cell). suc (length row) ≡ length titles) rows
  pub typed : (place : ℕ) → suc place < length titles → tells_type (column_at place rows) ≡ true

-- the text is that of a sheet of these columns and rows, with the number in front of each
pub record IsReadAgain (number : ℕ) (titles : List (List ℕ)) (rows : List (List Cell)) (bytes : List ℕ) : Type 0 where
  pub sheet : Sheet
  pub is : sheet_of bytes ≡ Ok sheet
  pub columns : map (λ (column : Column). column.name) sheet.cols ≡ titles
  pub same : sheet.rows ≡ map (λ (row : List Cell). cell.Int (pos number) ∷ row) rows
