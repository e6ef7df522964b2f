-- Machinery: how the script is written, row by row. Of the last line only counts are kept.
use Rattle.std.specs.Prelude.{ℕ, suc, ◌+◌, ◌%◌, nat_le, nat_lt, Bool, ◌&&◌, List, [], ◌∷◌, ◌++◌, length, Result, Ok, if◌then◌else◌, ◌==◌, codes}
use Rattle.std.specs.List.{concat}
use Rattle.gp_base.specs.declared.cell.Cell.{Cell}
use Rattle.gp_base.specs.Texts.{row_text}
use Rattle.gp_base.specs.declared.table.Column.{Column}
use Rattle.gp_grammar.specs.Canonical.{command_text}
use Rattle.gp_grammar.specs.Syntax.{Command, create}
use Rattle.gp_grammar.specs.declared.limits.TheConstants.{MAX_LINE_LENGTH, MAX_VALUES}
use Rattle.gp_csv.specs.Faults.{Fault, refuse, result_map, result_then}
use Rattle.gp_csv.specs.declared.error.TheConstants.{LONG_ROW, TOO_MANY}
use Rattle.gp_csv.specs.declared.script.TheConstants.{MAX_ROWS, MAX_INSERTS, MAX_STEPS}
use Rattle.gp_csv.specs.declared.script.LineCounts.{LineCounts}
use Rattle.gp_csv.specs.declared.sheet.Sheet.{Sheet}

-- a row in brackets
abbrev pub tuple_text : List Cell → List ℕ
tuple_text row = concat (codes "(" ∷ row_text row ∷ codes ")" ∷ [])

-- the beginning of an INSERT line
abbrev pub insert_text : List ℕ → List ℕ
insert_text name = concat (codes "s1: INSERT INTO " ∷ name ∷ codes " VALUES " ∷ [])

-- a script up to its last INSERT line, which has no line feed yet, and the counts of that line
abbrev pub Output : Type 0
Output = List ℕ × LineCounts

-- whether the line has room for one more tuple
abbrev pub has_room : LineCounts → List ℕ → Bool
has_room line tuple = nat_lt 0 line.rows && (nat_lt line.rows MAX_VALUES && nat_le (line.length + 2 + length tuple) MAX_LINE_LENGTH)

abbrev pub joined : Output → List ℕ → Output
joined written tuple =
    (written.0 ++ concat (codes ", " ∷ tuple ∷ []), record { length = written.1.length + 2 + length tuple; rows = written.1.rows + 1; inserts = written.1.inserts })

-- what is written between two INSERT lines, after so many of them
abbrev pub line_end : ℕ → List ℕ
line_end lines = if lines == 0 then [] else (if lines % MAX_STEPS == 0 then codes "\ns1: COMMIT\ns1: BEGIN\n" else codes "\n")

abbrev pub begun : List ℕ → Output → List ℕ → Output
begun prefix written tuple =
    (written.0 ++ concat (line_end written.1.inserts ∷ prefix ∷ tuple ∷ []), record { length = length prefix + length tuple; rows = 1; inserts = written.1.inserts + 1 })

abbrev pub placed : List ℕ → ℕ → Output → List ℕ → Result Output Fault
placed prefix number written tuple =
    if has_room written.1 tuple then Ok (joined written tuple)
    else (if nat_le MAX_INSERTS written.1.inserts then refuse TOO_MANY number else Ok (begun prefix written tuple))

-- one more tuple
unfoldable pub put_row : List ℕ → ℕ → Output → List ℕ → Result Output Fault
put_row prefix number written tuple =
    if nat_lt MAX_LINE_LENGTH (length prefix + length tuple) then refuse LONG_ROW number
    else (if nat_lt (MAX_ROWS + 1) number then refuse TOO_MANY number else placed prefix number written tuple)

-- the tuples of these rows
abbrev pub put_rows : List ℕ → ℕ → Output → List (List Cell) → Result Output Fault
put_rows prefix number written [] = Ok written
put_rows prefix number written (row ∷ rows) =
    result_then (λ (next : Output). put_rows prefix (suc number) next rows) (put_row prefix number written (tuple_text row))

-- no INSERT line yet
abbrev pub no_line : LineCounts
no_line = record { length = 0; rows = 0; inserts = 0 }

-- ---- whole scripts

abbrev pub create_of : List ℕ → List Column → Command
create_of name columns = create (record { name = name; cols = columns })

-- the lines before the first INSERT
abbrev pub script_head : List ℕ → List Column → List ℕ
script_head name columns = concat (codes "s1: " ∷ command_text (create_of name columns) ∷ codes "\ns1: BEGIN\n" ∷ [])

-- the end of the last INSERT line, and the line after it
abbrev pub script_end : ℕ → List ℕ
script_end lines = if lines == 0 then codes "s1: COMMIT\n" else codes "\ns1: COMMIT\n"

unfoldable pub packed_script : List ℕ → Sheet → Result (List ℕ) Fault
packed_script name sheet =
    result_map (λ (written : Output). written.0 ++ script_end written.1.inserts)
    (put_rows (insert_text name) 2 (script_head name sheet.cols, no_line) sheet.rows)
