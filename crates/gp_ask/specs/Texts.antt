-- Part of the statement: the texts of answers. Each begins with the number of its question; the lines that it counts follow, after two spaces each. Below a cycle its steps
-- follow, which are not counted.
use Rattle.std.specs.Prelude.{ℕ, List, [], ◌∷◌, ◌++◌, length, map, Option, codes}
use Rattle.std.specs.Option.{option_map_or}
use Rattle.std.specs.Fmt.{decimal}
use Rattle.std.specs.List.{concat, flat_map}
use Rattle.gp_base.specs.declared.cell.Cell.{Cell}
use Rattle.gp_base.specs.declared.cell.Cell.TheVariants as cell
use Rattle.gp_base.specs.Numbered.{newline, numbered, refused_text, rows_text}
use Rattle.gp_base.specs.Texts.{row_text}
use Rattle.gp_base.specs.Tokens.{monomial_text}
use Rattle.gp_base.specs.Writing.{joined_texts}
use Rattle.gp_semiring.specs.declared.listed.Listed as l
use Rattle.gp_ask.specs.declared.answered.AnomalyText.{AnomalyText}
use Rattle.gp_ask.specs.declared.answered.Answered.{Answered}
use Rattle.gp_ask.specs.declared.answered.Valued.{Valued}
use Rattle.gp_ask.specs.declared.answered.Answered.TheVariants.{Rows, Listed, Values, Program, Lines, Anomalies, Diff, Refused, Checked, Sheet}
use Rattle.gp_ask.specs.declared.answered.Heading.{Heading}
use Rattle.gp_ask.specs.declared.answered.Heading.TheVariants.{Log, Versions, Transactions, Changes, Conflicts, History, When, Causes, Serial, Cycle, Undecided}

-- a line of an answer
abbrev pub listed_line : List ℕ → List ℕ
listed_line text = concat (codes "  " ∷ text ∷ newline ∷ [])

-- an answer of lines, after a word and their number
unfoldable pub listed_text : ℕ → List ℕ → List (List ℕ) → List ℕ
listed_text number word texts = concat (decimal number ∷ codes " " ∷ word ∷ codes " " ∷ decimal (length texts) ∷ newline ∷ flat_map listed_line texts ∷ [])

abbrev pub heading_word : Heading → List ℕ
heading_word Log = codes "log"
heading_word Versions = codes "versions"
heading_word Transactions = codes "transactions"
heading_word Changes = codes "changes"
heading_word Conflicts = codes "conflicts"
heading_word History = codes "history"
heading_word When = codes "when"
heading_word Causes = codes "causes"
heading_word Serial = codes "serial"
heading_word Cycle = codes "cycle"
heading_word Undecided = codes "undecided"

-- a row with its provenance polynomial: its monomials in order, with plus signs between them
abbrev pub provenance_text : l.Listed → List ℕ
provenance_text listed = concat (row_text listed.row ∷ codes " : " ∷ joined_texts monomial_text (codes " + ") listed.monomials ∷ [])

-- a row with the text of its value in a semiring
abbrev pub value_text : Valued → List ℕ
value_text valued = concat (row_text valued.row ∷ codes " : " ∷ valued.text ∷ [])

-- a row of a difference: its first cell is its sign
abbrev pub signed_text : List Cell → List ℕ
signed_text (cell.Text sign ∷ row) = concat (sign ∷ codes " " ∷ row_text row ∷ [])
signed_text row = row_text row

-- a step of a cycle, below that
abbrev pub step_line : List ℕ → List ℕ
step_line text = concat (codes "    " ∷ text ∷ newline ∷ [])

abbrev pub anomaly_lines : AnomalyText → List ℕ
anomaly_lines anomaly = concat (listed_line anomaly.title ∷ flat_map step_line anomaly.steps ∷ [])

-- an answer of cycles, after their number
abbrev pub anomalies_heading : ℕ → ℕ → List ℕ
anomalies_heading number count = concat (decimal number ∷ codes " anomalies " ∷ decimal count ∷ newline ∷ [])

abbrev pub anomalies_text : ℕ → List AnomalyText → List ℕ
anomalies_text number anomalies = anomalies_heading number (length anomalies) ++ flat_map anomaly_lines anomalies

-- whether the dump is that of a history, or its first line that differs
abbrev pub checked_text : Option ℕ → List ℕ
checked_text line = option_map_or (λ (number : ℕ). concat (codes "differs at line " ∷ decimal number ∷ newline ∷ [])) line (codes "history" ++ newline)

-- rows and refusals are written as those of a script are: rows in row order, each as often as it occurs
abbrev pub answer_text : ℕ → Answered → List ℕ
answer_text number (Rows rows) = numbered number (rows_text rows)
answer_text number (Sheet sheet) = numbered number (rows_text sheet.rows)
answer_text number (Listed rows) = listed_text number (codes "rows") (map provenance_text rows)
answer_text number (Values rows) = listed_text number (codes "rows") (map value_text rows)
answer_text number (Lines heading texts) = listed_text number (heading_word heading) texts
answer_text number (Anomalies anomalies) = anomalies_text number anomalies
answer_text number (Program texts) = listed_text number (codes "program") texts
answer_text number (Diff rows) = listed_text number (codes "diff") (map signed_text rows)
answer_text number (Checked line) = numbered number (checked_text line)
answer_text number (Refused refusal) = numbered number (refused_text refusal)
