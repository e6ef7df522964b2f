-- Machinery: the verdict on a dump as a function of its lines, by the forms that the reader tests. By the law `first_faults_are_found` it fails exactly
-- where Rules says so.
use Rattle.std.specs.Prelude.{ℕ, zero, suc, ◌+◌, Bool, true, false, List, [], ◌∷◌, length, reverse, Option, Some, None, Result, Ok, Err, nat_lt, nat_le, if◌then◌else◌, slice_get}
use Rattle.std.specs.Str.{bytes_eq, is_utf8}
use Rattle.gp_base.specs.declared.table.Column.{Column}
use Rattle.gp_base.specs.declared.table.Table.{Table}
use Rattle.gp_versions.specs.declared.span.Span.{Span}
use Rattle.gp_base.specs.declared.limit.TheConstants.{MAX_SPANS}
use Rattle.gp_machine.specs.Entries.{Entry, versions_in}
use Rattle.gp_log.specs.Discipline.{Flaw, next_entry, last_line}
use Rattle.gp_log.specs.LogFacts.{tables_in}
use Rattle.gp_log.specs.Parameters.{parameters}
use Rattle.gp_dumpline.specs.Forms.{count_of, header_of, log_line_of, said_of, section_of, span_of}
use Rattle.gp_dumpline.specs.Said.{is_said_in}
use Rattle.gp_dumpline.specs.Texts.{end_text}
use Rattle.gp_dump.specs.Dumps.{Dump, fits_columns, is_in_place, spans_in}
use Rattle.gp_dump.specs.Lines.{DumpLine, Whole, Cut, Missing, lines_of}
use Rattle.gp_dump.specs.Rules.{Due, Header, Count, Logs, Sections, Rows, Nothing, flaw_rule}

infixl 10 ◌>>=◌
abbrev pub ◌>>=◌ : {A B F : Type 0} → Result A F → (A → Result B F) → Result B F
(Ok x) >>= f = f x
(Err e) >>= f = Err e

-- a rule that gives what it reads, and one that is a test
abbrev pub rule : {A : Type 0} → ℕ → Option A → Result A ℕ
rule number None = Err number
rule number (Some x) = Ok x

abbrev pub rule_holds : ℕ → Bool → Result (Unit {0}) ℕ
rule_holds number true = Ok tt
rule_holds number false = Err number

-- ---- the rules of a line

-- rules 1 and 3: a line is UTF-8, and is ended by a line feed
abbrev pub text_of : DumpLine → Result (List ℕ) ℕ
text_of (Whole text) = if is_utf8 text then Ok text else Err 1
text_of (Cut text) = if is_utf8 text then Err 3 else Err 1
text_of Missing = Err 3

-- rule 2: the first line names a format; it comes before rule 3
abbrev pub header_line : DumpLine → Result Due ℕ
header_line (Whole text) = if is_utf8 text then (rule 2 (header_of text) >>= (λ second. Ok (Count second))) else Err 1
header_line (Cut text) = if is_utf8 text then (rule 2 (header_of text) >>= (λ second. Err 3)) else Err 1
header_line Missing = Err 3

abbrev pub rule_next : Result Entry Flaw → Result Entry ℕ
rule_next (Ok entry) = Ok entry
rule_next (Err flaw) = Err (flaw_rule flaw)

-- rules 5 to 9: a log line; rule 7 is on what it says, and on what the format has
unfoldable pub log_rule : Bool → List Entry → List ℕ → Result Entry ℕ
log_rule second log text = do
  l ← rule 5 (log_line_of text)
  above ← rule_holds 6 (nat_lt (last_line log) l.line)
  said ← rule 7 (said_of l.said)
  known ← rule_holds 7 (is_said_in second said)
  rule_next (next_entry parameters log l.line l.session said)

-- rule 10: the beginning of a table; all tables together have few enough rows
unfoldable pub section_rule : ℕ → Table → List ℕ → Result ℕ ℕ
section_rule before table text = do
  rows ← rule 10 (section_of table.name text)
  few ← rule_holds 10 (nat_le (before + rows) MAX_SPANS)
  Ok rows

-- rules 11 to 13: a row line of a table with these columns
unfoldable pub row_rule : List Column → ℕ → List Span → List ℕ → Result Span ℕ
row_rule cols versions before text = do
  span ← rule 11 (span_of text)
  fits ← rule_holds 12 (fits_columns cols span.row)
  placed ← rule_holds 13 (is_in_place versions before span)
  Ok span

-- rule 14: the last line
abbrev pub end_rule : List ℕ → Result (Unit {0}) ℕ
end_rule text = rule_holds 14 (bytes_eq text end_text)

-- ---- what is due after a line

-- a line that begins the next table, if there is one, or ends the dump
abbrev pub section_line : List Entry → List (List Span) → Option Table → List ℕ → Result Due ℕ
section_line log tables None text = end_rule text >>= (λ ended. Ok (Nothing (record { entries = log; tables = reverse tables })))
section_line log tables (Some table) text = section_rule (spans_in tables) table text >>= (λ rows. Ok (Rows rows log tables []))

abbrev pub next_section : List Entry → List (List Span) → List ℕ → Result Due ℕ
next_section log tables text = section_line log tables (slice_get (tables_in log) (length tables)) text

-- the columns of the table whose rows are due
abbrev pub cols_of : Option Table → List Column
cols_of None = []
cols_of (Some table) = table.cols

abbrev pub row_line : ℕ → List Entry → List (List Span) → List Span → List ℕ → Result Due ℕ
row_line left log tables rows text =
    row_rule (cols_of (slice_get (tables_in log) (length tables))) (versions_in log) rows text >>= (λ span. Ok (Rows left log tables (span ∷ rows)))

-- a line that has a text: what is due after it, or the least rule that fails
unfoldable pub after_text : Due → List ℕ → Result Due ℕ
after_text Header text = Err 2
after_text (Count second) text = rule 4 (count_of text) >>= (λ n. Ok (Logs second n []))
after_text (Logs second zero log) text = next_section log [] text
after_text (Logs second (suc left) log) text = log_rule second log text >>= (λ entry. Ok (Logs second left (entry ∷ log)))
after_text (Sections log tables) text = next_section log tables text
after_text (Rows zero log tables rows) text = next_section log (reverse rows ∷ tables) text
after_text (Rows (suc left) log tables rows) text = row_line left log tables rows text
after_text (Nothing dump) text = Err 14

-- after the end there is no line
abbrev pub nothing_line : DumpLine → Result (Unit {0}) ℕ
nothing_line (Whole text) = if is_utf8 text then Err 14 else Err 1
nothing_line (Cut text) = if is_utf8 text then Err 3 else Err 1
nothing_line Missing = Ok tt

-- ---- the verdict

-- the dump that the lines hold, or the number of the rule that fails first, and the number of its line
pub data Verdict : Type 0 where
  Holds : Dump → Verdict
  Fails : ℕ → ℕ → Verdict

abbrev pub then_verdict : Result Due ℕ → ℕ → (Due → Verdict) → Verdict
then_verdict (Ok due) number rest = rest due
then_verdict (Err f) number rest = Fails f number

abbrev pub end_verdict : Result (Unit {0}) ℕ → ℕ → Dump → Verdict
end_verdict (Ok x) number dump = Holds dump
end_verdict (Err f) number dump = Fails f number

-- the verdict on lines, of which the first has this number, given what is due
unfoldable pub verdict : List DumpLine → Due → ℕ → Verdict
verdict [] due number = Fails 3 number
verdict (line ∷ lines) Header number = then_verdict (header_line line) number (λ next. verdict lines next (number + 1))
verdict (line ∷ lines) (Count second) number = then_verdict (text_of line >>= after_text (Count second)) number (λ next. verdict lines next (number + 1))
verdict (line ∷ lines) (Logs second left log) number = then_verdict (text_of line >>= after_text (Logs second left log)) number (λ next. verdict lines next (number + 1))
verdict (line ∷ lines) (Sections log tables) number =
    then_verdict (text_of line >>= after_text (Sections log tables)) number (λ next. verdict lines next (number + 1))
verdict (line ∷ lines) (Rows left log tables rows) number =
    then_verdict (text_of line >>= after_text (Rows left log tables rows)) number (λ next. verdict lines next (number + 1))
verdict (line ∷ lines) (Nothing dump) number = end_verdict (nothing_line line) number dump

-- the verdict on the bytes of a file
abbrev pub verdict_on : List ℕ → Verdict
verdict_on bytes = verdict (lines_of bytes) Header 1

-- the number of the rule that fails first, and the number of its line
abbrev pub fault_in : Verdict → Option (ℕ × ℕ)
fault_in (Holds dump) = None
fault_in (Fails f line) = Some (f, line)

abbrev pub first_fault : List ℕ → Option (ℕ × ℕ)
first_fault bytes = fault_in (verdict_on bytes)
