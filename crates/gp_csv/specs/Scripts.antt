-- Part of the statement: the script that fills a table with the rows of a sheet. It is of one session, each of its lines is a command in canonical
-- text, and each INSERT takes a batch of rows.
use Rattle.std.specs.Prelude.{ℕ, suc, ◌+◌, ◌%◌, nat_le, nat_lt, Bool, false, ◌&&◌, List, [], ◌∷◌, ◌++◌, length, Result, Ok, if◌then◌else◌, ◌==◌, codes}
use Rattle.std.specs.List.{flat_map}
use Rattle.gp_base.specs.declared.cell.Cell.{Cell}
use Rattle.gp_grammar.specs.Canonical.{command_text}
use Rattle.gp_grammar.specs.Syntax.{Command, create, begin, insert}
use Rattle.gp_grammar.specs.declared.limits.TheConstants.{MAX_LINE_LENGTH, MAX_VALUES}
use Rattle.gp_csv.specs.Faults.{Fault, refuse, result_map}
use Rattle.gp_csv.specs.declared.error.TheConstants.{LONG_ROW, TOO_MANY}
use Rattle.gp_csv.specs.declared.script.TheConstants.{MAX_ROWS, MAX_INSERTS, MAX_STEPS}
use Rattle.gp_csv.specs.declared.sheet.Sheet.{Sheet}

abbrev pub Row : Type 0
Row = List Cell

-- a line of the script, without its line feed and with it
abbrev pub session_line : Command → List ℕ
session_line command = codes "s1: " ++ command_text command

abbrev pub ended_line : Command → List ℕ
ended_line command = session_line command ++ 10 ∷ []

-- ---- rows to batches

-- an INSERT of this batch is a line that a script can have: it has rows, but not too many, and is not too long
abbrev pub fits_line : List ℕ → List Row → Bool
fits_line name batch =
    nat_lt 0 (length batch) && (nat_le (length batch) MAX_VALUES && nat_le (length (session_line (insert name batch))) MAX_LINE_LENGTH)

-- The batches that begin with this one, where `count` is their number so far, and `number` is the record of the next row. A row joins the last batch,
-- unless the line would be too long; then it begins the next one. Since a longer line never fits where a shorter one does not, each batch has as
-- many rows as fit. The first record with a fault is refused.
abbrev pub batches_from : List ℕ → ℕ → ℕ → List Row → List Row → Result (List (List Row)) Fault
batches_from name number count batch [] = Ok (batch ∷ [])
batches_from name number count batch (row ∷ rows) =
    if nat_lt MAX_LINE_LENGTH (length (session_line (insert name (row ∷ [])))) then refuse LONG_ROW number
    else (if nat_lt (MAX_ROWS + 1) number then refuse TOO_MANY number
    else (if fits_line name (batch ++ row ∷ []) then batches_from name (suc number) count (batch ++ row ∷ []) rows
    else (if nat_le MAX_INSERTS count then refuse TOO_MANY number
    else result_map (λ (more : List (List Row)). batch ∷ more) (batches_from name (suc number) (suc count) (row ∷ []) rows))))

-- the batches of all rows; record 1 names the columns, so the first row is record 2
unfoldable pub batches_of : List ℕ → List Row → Result (List (List Row)) Fault
batches_of name [] = Ok []
batches_of name (row ∷ rows) =
    if nat_lt MAX_LINE_LENGTH (length (session_line (insert name (row ∷ [])))) then refuse LONG_ROW 2 else batches_from name 3 1 (row ∷ []) rows

-- ---- batches to commands

-- COMMIT and BEGIN after so many INSERTs, if the transaction has some and can have no more
abbrev pub transaction_break : ℕ → List Command
transaction_break count = if nat_lt 0 count && (count % MAX_STEPS == 0) then Command.commit ∷ begin false ∷ [] else []

-- the INSERTs of these batches, after so many others
abbrev pub inserts_from : List ℕ → ℕ → List (List Row) → List Command
inserts_from name count [] = []
inserts_from name count (batch ∷ batches) = transaction_break count ++ (insert name batch ∷ inserts_from name (suc count) batches)

-- the commands of a sheet, given its batches
abbrev pub commands_of : List ℕ → Sheet → List (List Row) → List Command
commands_of name sheet batches = create (record { name = name; cols = sheet.cols }) ∷ begin false ∷ (inserts_from name 0 batches ++ (Command.commit ∷ []))

abbrev pub script_text : List Command → List ℕ
script_text commands = flat_map ended_line commands

-- the script of a sheet, or its first fault
abbrev pub script_of : List ℕ → Sheet → Result (List ℕ) Fault
script_of name sheet = result_map (λ (batches : List (List Row)). script_text (commands_of name sheet batches)) (batches_of name sheet.rows)
