-- Part of the statement: the script of a sheet is run without a refusal, and leaves the rows of the sheet in its one table.
use Rattle.std.specs.Prelude.{◌≡◌, ℕ, ◌≤◌, false, List, [], ◌∷◌, length, map, Result, Ok}
use Rattle.gp_base.specs.declared.cell.Cell.{Cell}
use Rattle.gp_base.specs.declared.table.Table.{Table}
use Rattle.gp_base.specs.Annotated.{Annotated, unannotated}
use Rattle.gp_machine.specs.Entries.{versions_in}
use Rattle.gp_machine.specs.State.{State}
use Rattle.gp_script.specs.History.{IsScript, ReadLine, has_refusal, last_state, replies_to}
use Rattle.gp_script.specs.declared.script.TheConstants.{MAX_SCRIPT_LENGTH}
use Rattle.gp_csv.specs.Faults.{Fault, result_map, result_then}
use Rattle.gp_csv.specs.Sheets.{sheet_of}
use Rattle.gp_csv.specs.Scripts.{script_of}
use Rattle.gp_csv.specs.declared.sheet.Sheet.{Sheet}

-- the cells of the rows of a table in the last version
abbrev pub last_rows : State (Unit {0}) → ℕ → List (List Cell)
last_rows state table = map (λ (row : Annotated (Unit {0})). row.cells) (state.committed (versions_in state.entries) table)

abbrev pub table_of : List ℕ → Sheet → Table
table_of name sheet = record { name = name; cols = sheet.cols }

-- The script can be run, no line of it is refused, and the last version has the sheet's rows, in order and each as often as it occurs, in its one
-- table.
pub record Loads (name : List ℕ) (sheet : Sheet) (script : List ℕ) : Type 0 where
  pub short : length script ≤ MAX_SCRIPT_LENGTH
  pub lines : List ReadLine
  pub are : IsScript script lines
  pub accepted : has_refusal (replies_to lines) ≡ false
  pub table : (last_state unannotated lines).catalogue ≡ table_of name sheet ∷ []
  pub rows : last_rows (last_state unannotated lines) 0 ≡ sheet.rows

-- the script of the sheet of a text and the number of its rows, or the first fault
abbrev pub loaded_of : List ℕ → List ℕ → Result (List ℕ × ℕ) Fault
loaded_of name bytes =
    result_then (λ (sheet : Sheet). result_map (λ (script : List ℕ). (script, length sheet.rows)) (script_of name sheet)) (sheet_of bytes)

-- the script loads the sheet of the text
pub record LoadsText (name bytes script : List ℕ) : Type 0 where
  pub sheet : Sheet
  pub is : sheet_of bytes ≡ Ok sheet
  pub loads : Loads name sheet script
