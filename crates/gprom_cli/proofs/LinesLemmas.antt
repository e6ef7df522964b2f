-- The texts of answers, and of summaries, are whole lines.
use Rattle.std.proofs.Common.{◌≡◌, ℕ, inl, inr, Option, Some, None, List, [], ◌∷◌, ◌++◌, length, map, refl, sym, ap, ◌∙◌, subst, append_assoc, append-nil, codes}
use Rattle.std.specs.Fmt.{decimal}
use Rattle.std.specs.List.{flat_map}
use Rattle.gp_base.specs.Numbered.{newline, numbered, refused_text, row_line, rows_text}
use Rattle.gp_base.specs.Order.{sorted_by, row_cmp}
use Rattle.gp_base.specs.Refusals.{refusal_text}
use Rattle.gp_base.specs.Texts as cells
use Rattle.gp_base.specs.declared.cell.Cell.{Cell}
use Rattle.gp_base.specs.declared.refusal.Refusal.{Refusal}
use Rattle.gp_base.specs.declared.refusal.Refusal.TheVariants.{E30}
use Rattle.gp_base.specs.declared.table.Table.{Table}
use Rattle.gp_csv.specs.Answers.{csv_text}
use Rattle.gp_grammar.specs.Syntax as y
use Rattle.gp_ask.specs.declared.answered.AnomalyText.{AnomalyText}
use Rattle.gp_ask.specs.declared.answered.Answered.{Answered}
use Rattle.gp_ask.specs.declared.answered.Answered.TheVariants.{Rows, Listed, Values, Program, Lines, Anomalies, Diff, Checked, Refused, Sheet}
use Rattle.gp_ask.specs.declared.format.Format.{Format}
use Rattle.gp_ask.specs.declared.format.Format.TheVariants.{Text, Csv, Named, Sql}
use Rattle.gp_ask.specs.Formats.{exported_records, sql_answer_text, sql_refusal, text_in}
use Rattle.gp_ask.specs.QuestionFiles.{line_answer_in, line_answer_text}
use Rattle.gp_ask.specs.Texts.{anomalies_heading, anomalies_text, anomaly_lines, answer_text, checked_text, heading_word, listed_line, listed_text, provenance_text, signed_text, step_line, value_text}
use Rattle.gprom_cli.specs.declared.summary.Summary.{Summary}
use Rattle.gprom_cli.specs.Call.{IsWholeLines, rounds_line}
use Rattle.gprom_cli.specs.Generated.{Pieces, pieces_line, pieces_lines}
use Rattle.gprom_cli.specs.Summary.{summary_lines, summary_text}

-- the text ends with the end of a line
abbrev EndsLine : List ℕ → Type 0
EndsLine text = (front : List ℕ) × (text ≡ front ++ newline)

-- a text that ends so behind another one
behind : (first text : List ℕ) → EndsLine text → EndsLine (first ++ text)
behind first text ends = (first ++ ends.0, ap (λ (t : List ℕ). first ++ t) ends.1 ∙ sym (append_assoc first ends.0 newline))

then-nothing : (text : List ℕ) → EndsLine text → EndsLine (text ++ [])
then-nothing text ends = subst EndsLine (sym (append-nil text)) ends

-- whole lines behind such a text
then-lines : (text lines : List ℕ) → EndsLine text → IsWholeLines lines → EndsLine (text ++ lines)
then-lines text lines ends (inl none) = subst (λ (more : List ℕ). EndsLine (text ++ more)) (sym none) (then-nothing text ends)
then-lines text lines ends (inr more) = behind text lines more

pub after-lines : (lines more : List ℕ) → IsWholeLines lines → IsWholeLines more → IsWholeLines (lines ++ more)
after-lines lines more (inl none) are = subst (λ (first : List ℕ). IsWholeLines (first ++ more)) (sym none) are
after-lines lines more (inr ends) are = inr (then-lines lines more ends are)

all-lines : {X : Type 0} (text_of : X → List ℕ) → ((item : X) → EndsLine (text_of item)) → (items : List X) → IsWholeLines (flat_map text_of items)
all-lines text_of each [] = inl refl
all-lines text_of each (item ∷ items) = inr (then-lines (text_of item) (flat_map text_of items) (each item) (all-lines text_of each items))

newline-ends : EndsLine newline
newline-ends = ([], refl)

-- ---- as text

numbered-ends : (number : ℕ) (text : List ℕ) → EndsLine text → EndsLine (numbered number text)
numbered-ends number text ends = behind (decimal number) (codes " " ++ (text ++ [])) (behind (codes " ") (text ++ []) (then-nothing text ends))

row-ends : (row : List Cell) → EndsLine (row_line row)
row-ends row = behind (codes "  ") (cells.row_text row ++ (newline ++ [])) (behind (cells.row_text row) (newline ++ []) newline-ends)

rows-ends : (rows : List (List Cell)) → EndsLine (rows_text rows)
rows-ends rows =
    let lines = flat_map row_line (sorted_by row_cmp rows) in
    let after : EndsLine (newline ++ (lines ++ [])) =
    then-lines newline (lines ++ []) newline-ends (subst IsWholeLines (sym (append-nil lines)) (all-lines row_line row-ends (sorted_by row_cmp rows))) in
    behind (codes "rows ") (decimal (length rows) ++ (newline ++ (lines ++ []))) (behind (decimal (length rows)) (newline ++ (lines ++ [])) after)

refused-ends : (refusal : Refusal) → EndsLine (refused_text refusal)
refused-ends refusal = behind (refusal_text refusal) (newline ++ []) newline-ends

listed-line-ends : (text : List ℕ) → EndsLine (listed_line text)
listed-line-ends text = behind (codes "  ") (text ++ (newline ++ [])) (behind text (newline ++ []) newline-ends)

listed-ends : (number : ℕ) (word : List ℕ) (texts : List (List ℕ)) → EndsLine (listed_text number word texts)
unfolding listed_text
listed-ends number word texts =
    let lines = flat_map listed_line texts in
    let count = decimal (length texts) in
    let after : EndsLine (newline ++ (lines ++ [])) =
    then-lines newline (lines ++ []) newline-ends (subst IsWholeLines (sym (append-nil lines)) (all-lines listed_line listed-line-ends texts)) in
    behind (decimal number) (codes " " ++ (word ++ (codes " " ++ (count ++ (newline ++ (lines ++ []))))))
    (behind (codes " ") (word ++ (codes " " ++ (count ++ (newline ++ (lines ++ [])))))
    (behind word (codes " " ++ (count ++ (newline ++ (lines ++ []))))
    (behind (codes " ") (count ++ (newline ++ (lines ++ []))) (behind count (newline ++ (lines ++ [])) after))))

step-ends : (text : List ℕ) → EndsLine (step_line text)
step-ends text = behind (codes "    ") (text ++ (newline ++ [])) (behind text (newline ++ []) newline-ends)

anomaly-ends : (anomaly : AnomalyText) → EndsLine (anomaly_lines anomaly)
anomaly-ends anomaly =
    then-lines (listed_line anomaly.title) (flat_map step_line anomaly.steps ++ []) (listed-line-ends anomaly.title)
    (subst IsWholeLines (sym (append-nil (flat_map step_line anomaly.steps))) (all-lines step_line step-ends anomaly.steps))

anomalies-ends : (number : ℕ) (anomalies : List AnomalyText) → EndsLine (anomalies_text number anomalies)
anomalies-ends number anomalies =
    let count = decimal (length anomalies) in
    then-lines (anomalies_heading number (length anomalies)) (flat_map anomaly_lines anomalies)
    (behind (decimal number) (codes " anomalies " ++ (count ++ (newline ++ []))) (behind (codes " anomalies ") (count ++ (newline ++ [])) (behind count (newline ++ []) newline-ends)))
    (all-lines anomaly_lines anomaly-ends anomalies)

checked-ends : (line : Option ℕ) → EndsLine (checked_text line)
checked-ends None = behind (codes "history") newline newline-ends
checked-ends (Some line) = behind (codes "differs at line ") (decimal line ++ (newline ++ [])) (behind (decimal line) (newline ++ []) newline-ends)

text-ends : (number : ℕ) (answer : Answered) → EndsLine (answer_text number answer)
text-ends number (Rows rows) = numbered-ends number (rows_text rows) (rows-ends rows)
text-ends number (Sheet sheet) = numbered-ends number (rows_text sheet.rows) (rows-ends sheet.rows)
text-ends number (Listed rows) = listed-ends number (codes "rows") (map provenance_text rows)
text-ends number (Values rows) = listed-ends number (codes "rows") (map value_text rows)
text-ends number (Lines heading texts) = listed-ends number (heading_word heading) texts
text-ends number (Anomalies anomalies) = anomalies-ends number anomalies
text-ends number (Program texts) = listed-ends number (codes "program") texts
text-ends number (Diff rows) = listed-ends number (codes "diff") (map signed_text rows)
text-ends number (Checked line) = numbered-ends number (checked_text line) (checked-ends line)
text-ends number (Refused refusal) = numbered-ends number (refused_text refusal) (refused-ends refusal)

-- ---- as CSV

csv-lines : (records : List (List (List ℕ))) → IsWholeLines (csv_text records)
csv-lines [] = inl refl
csv-lines (fields ∷ records) = inr (then-lines _ (csv_text records) (behind _ _ (behind _ _ newline-ends)) (csv-lines records))

-- ---- as SQL

ended : (line : List ℕ) → EndsLine (line ++ newline)
ended line = (line, refl)

refusal-ends : (number : ℕ) (refusal : Refusal) → EndsLine (sql_refusal number refusal)
refusal-ends number refusal = behind (codes "-- ") (numbered number (refused_text refusal)) (numbered-ends number (refused_text refusal) (refused-ends refusal))

sql-ends : (number : ℕ) (answer : Answered) → EndsLine (sql_answer_text number answer)
sql-ends number (Program lines) =
    let texts = flat_map (λ (line : List ℕ). line ++ newline) lines in
    let after : EndsLine (newline ++ (texts ++ [])) =
    then-lines newline (texts ++ []) newline-ends (subst IsWholeLines (sym (append-nil texts)) (all-lines (λ (line : List ℕ). line ++ newline) ended lines)) in
    behind (codes "-- ") (decimal number ++ (newline ++ (texts ++ []))) (behind (decimal number) (newline ++ (texts ++ [])) after)
sql-ends number (Refused refusal) = refusal-ends number refusal
sql-ends number (Rows rows) = refusal-ends number E30
sql-ends number (Sheet sheet) = refusal-ends number E30
sql-ends number (Listed rows) = refusal-ends number E30
sql-ends number (Values rows) = refusal-ends number E30
sql-ends number (Lines heading texts) = refusal-ends number E30
sql-ends number (Anomalies anomalies) = refusal-ends number E30
sql-ends number (Diff rows) = refusal-ends number E30
sql-ends number (Checked line) = refusal-ends number E30

-- ---- each answer

lines-in : (format : Format) (number : ℕ) (answer : Answered) → IsWholeLines (text_in format number answer)
lines-in Text number answer = inr (text-ends number answer)
lines-in Csv number answer = csv-lines (exported_records number answer)
lines-in Named number answer = csv-lines (exported_records number answer)
lines-in Sql number answer = inr (sql-ends number answer)

pub answer-lines : (format : Format) (tables : List Table) (answers : y.Question → Answered) (line : ℕ × List ℕ) → IsWholeLines (line_answer_text format tables answers line)
answer-lines format tables answers line = lines-in format line.0 (line_answer_in format tables answers line)

-- ---- the summary of `gen`

pieces-end : (line : Pieces) → EndsLine (pieces_line line)
pieces-end [] = then-nothing newline newline-ends
pieces-end (piece ∷ line) = behind piece (pieces_line line) (pieces-end line)

abbrev behind_first : List Pieces → List Pieces
behind_first [] = []
behind_first (line ∷ lines) = lines

-- the first line has the rounds, and lines follow
pub summary-lines : (summary : Summary) → (others : List ℕ) × IsWholeLines others × (summary_text summary ≡ rounds_line summary.rounds ++ others)
summary-lines summary =
    let others = behind_first (summary_lines summary) in
    (pieces_lines others, all-lines pieces_line pieces-end others, refl)
