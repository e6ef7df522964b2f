-- The round trip of whole dumps, from the laws of single lines: the rules take the text of a dump as this dump, and no other text.
use Rattle.gp_dump.proofs.Prelude.{◌≡◌, ℕ, zero, suc, ◌+◌, ◌≤◌, Bool, true, false, eqb, List, [], ◌∷◌, ◌++◌, length, map, reverse, Option, Some, None, Result, Ok, Err, inl, inr, refl, sym, ap, subst, ◌∙◌, arith, append_assoc, AllByRecursion, flat_map, list_any, is_utf8, bytes_eq, cases_Bool, eqb-true, false≢true, append-nil, length-reverse, map-append, reverse-append, reverse-reverse, sum_by-cons, bytes_eq-Decides, Column, Table, Span, MAX_SPANS, Entry, versions_in, MAX_ENTRIES, IsLog, IsNext, said_by, tables_in, parameters, count_of, header_of, said_of, is_said_in, count_text, end_text, entry_text, header, said_text, section_text, span_text, header-takes, is-said, said-is}
use Rattle.std.specs.List.{slice_get}
use Rattle.std.proofs.lemmas.List.{length-append}
use Rattle.gp_dumpline.specs.Laws.{IsOneLine}
use Rattle.gp_dumpline.proofs.HeaderLaws.{header-again as header_form-again}
use Rattle.gp_dump.specs.Dumps.{Dump, IsRow, has_read_committed, with_newline, sections_texts, spans_in, texts_of}
use Rattle.gp_dump.specs.Writing.{section_texts}
use Rattle.gp_dump.specs.WholeDumps.{AreInPlace, AreOfTables, AreReadable, IsDump, IsTextOf}
use Rattle.gp_dump.specs.Lines.{DumpLine, Whole, Cut, Missing, lines_of, onto as put}
use Rattle.gp_dump.specs.Rules.{Due, Header, Count, Logs, Sections, Rows, Nothing}
use Rattle.gp_dump.specs.Verdicts.{◌>>=◌, Verdict, Holds, Fails, after_text, end_verdict, log_rule, nothing_line, row_rule, rule, rule_holds, section_rule, text_of, then_verdict, verdict, verdict_on}
use Rattle.gp_dump.proofs.FormatLemmas.{AreSaidIn, format-said, said-format}

-- ---- items put in front of a list one after another, so that the last is first

abbrev pub onto : {T : Type 0} → List T → List T → List T
onto [] behind = behind
onto (x ∷ xs) behind = onto xs (x ∷ behind)

abbrev pub whole_lines : List (List ℕ) → List DumpLine
whole_lines texts = map (λ (text : List ℕ). Whole text) texts

-- ---- what is needed of single lines

-- an entry after these, of which the text can be read in this format
pub record IsEntry (second : Bool) (log : List Entry) (entry : Entry) : Type 0 where
  pub next : IsNext parameters log entry
  pub said : said_of (said_text (said_by entry)) ≡ Some (said_by entry)
  pub format : is_said_in second (said_by entry) ≡ true

-- ---- log lines, the oldest first

abbrev pub Follow : Bool → List Entry → List Entry → Type 0
Follow second log [] = Unit {0}
Follow second log (entry ∷ entries) = IsEntry second log entry × Follow second (entry ∷ log) entries

-- the laws of single lines
pub record LineLaws : Type 0 where
  pub header : (second : Bool) → IsOneLine (header second)
  pub end : IsOneLine end_text
  pub count : (n : ℕ) → n ≤ MAX_ENTRIES → IsOneLine (count_text n)
  pub count_again : (n : ℕ) → n ≤ MAX_ENTRIES → count_of (count_text n) ≡ Some n
  pub count_taken : (text : List ℕ) (n : ℕ) → count_of text ≡ Some n → (text ≡ count_text n) × (n ≤ MAX_ENTRIES)
  pub entry : (second : Bool) (log : List Entry) (entry : Entry) → IsEntry second log entry → IsOneLine (entry_text entry)
  pub entry_again : (second : Bool) (log : List Entry) (entry : Entry) → IsEntry second log entry → log_rule second log (entry_text entry) ≡ Ok entry
  pub entry_taken : (second : Bool) (log : List Entry) (text : List ℕ) (entry : Entry) → log_rule second log text ≡ Ok entry → (text ≡ entry_text entry) × IsEntry second log entry

-- the laws of the lines of a table
pub record TableLaws (table : Table) (versions : ℕ) : Type 0 where
  pub section : (n : ℕ) → n ≤ MAX_SPANS → IsOneLine (section_text table.name n)
  pub section_again : (before n : ℕ) → before + n ≤ MAX_SPANS → section_rule before table (section_text table.name n) ≡ Ok n
  pub section_taken : (before : ℕ) (text : List ℕ) (n : ℕ) → section_rule before table text ≡ Ok n → (text ≡ section_text table.name n) × (before + n ≤ MAX_SPANS)
  pub row : (before : List Span) (span : Span) → IsRow table.cols versions before span → IsOneLine (span_text span)
  pub row_again : (before : List Span) (span : Span) → IsRow table.cols versions before span → row_rule table.cols versions before (span_text span) ≡ Ok span
  pub row_taken : (before : List Span) (text : List ℕ) (span : Span) → row_rule table.cols versions before text ≡ Ok span → (text ≡ span_text span) × IsRow table.cols versions before span

-- ---- what is written is read

pub logs-again : (laws : LineLaws) (second : Bool) (entries log : List Entry) (number : ℕ) (rest : List DumpLine) → Follow second log entries
    → verdict (whole_lines (map entry_text entries) ++ rest) (Logs second (length entries) log) number ≡ verdict rest (Sections (onto entries log) []) (number + length entries)
unfolding verdict after_text
logs-again laws second [] log number [] all = ap (λ (n : ℕ). Fails 3 n) (omega arith)
logs-again laws second [] log number (line ∷ rest) all = ap (λ (n : ℕ). verdict (line ∷ rest) (Sections log []) n) (omega arith)
logs-again laws second (entry ∷ entries) log number rest all =
    let step : verdict (whole_lines (map entry_text (entry ∷ entries)) ++ rest) (Logs second (length (entry ∷ entries)) log) number ≡ verdict (whole_lines (map entry_text entries) ++ rest) (Logs second (length entries) (entry ∷ log)) (number + 1) = rw ((laws.entry second log entry all.0).utf8, laws.entry_again second log entry all.0) refl in
    step ∙ logs-again laws second entries (entry ∷ log) (number + 1) rest all.1 ∙ ap (λ (n : ℕ). verdict rest (Sections (onto entries (entry ∷ log)) []) n) (omega arith)

pub rows-again : (table : Table) (log : List Entry) (tables : List (List Span)) (laws : TableLaws table (versions_in log)) → slice_get (tables_in log) (length tables) ≡ Some table
    → (spans rows : List Span) (number : ℕ) (rest : List DumpLine) → AreInPlace table.cols (versions_in log) rows spans
    → verdict (whole_lines (map span_text spans) ++ rest) (Rows (length spans) log tables rows) number ≡ verdict rest (Sections log (reverse (onto spans rows) ∷ tables)) (number + length spans)
unfolding verdict after_text
rows-again table log tables laws is [] rows number [] all = ap (λ (n : ℕ). Fails 3 n) (omega arith)
rows-again table log tables laws is [] rows number (line ∷ rest) all = ap (λ (n : ℕ). verdict (line ∷ rest) (Sections log (reverse rows ∷ tables)) n) (omega arith)
rows-again table log tables laws is (span ∷ spans) rows number rest all =
    let step : verdict (whole_lines (map span_text (span ∷ spans)) ++ rest) (Rows (length (span ∷ spans)) log tables rows) number ≡ verdict (whole_lines (map span_text spans) ++ rest) (Rows (length spans) log tables (span ∷ rows)) (number + 1) = rw ((laws.row rows span all.0).utf8, is, laws.row_again rows span all.0) refl in
    step ∙ rows-again table log tables laws is spans (span ∷ rows) (number + 1) rest all.1 ∙ ap (λ (n : ℕ). verdict rest (Sections log (reverse (onto spans (span ∷ rows)) ∷ tables)) n) (omega arith)

-- ---- lists

pub onto-is : {T : Type 0} (xs behind : List T) → onto xs behind ≡ reverse xs ++ behind
onto-is [] behind = refl
onto-is (x ∷ xs) behind = onto-is xs (x ∷ behind) ∙ sym (ap (λ ys. ys ++ behind) (reverse-append (x ∷ []) xs) ∙ append_assoc (reverse xs) (x ∷ []) behind)

pub onto-all : {T : Type 0} (xs : List T) → onto xs [] ≡ reverse xs
onto-all xs = onto-is xs [] ∙ append-nil (reverse xs)

pub reverse-onto : {T : Type 0} (xs : List T) → reverse (onto xs []) ≡ xs
reverse-onto xs = ap reverse (onto-all xs) ∙ reverse-reverse xs

-- the first table behind others
pub get-behind : (made : List Table) (table : Table) (others : List Table) → slice_get (made ++ table ∷ others) (length made) ≡ Some table
get-behind [] table others = refl
get-behind (first ∷ made) table others = get-behind made table others

pub get-past : (made : List Table) → slice_get (made ++ []) (length made) ≡ None
get-past [] = refl
get-past (first ∷ made) = get-past made

pub spans_in-cons : (spans : List Span) (tables : List (List Span)) → spans_in (spans ∷ tables) ≡ length spans + spans_in tables
spans_in-cons spans tables = sum_by-cons (λ n. n) (length spans) (map (λ (x : List Span). length x) tables)

-- ---- tables

-- the lines of each of these tables have laws
abbrev pub AreLawful : List Table → ℕ → Type 0
AreLawful [] versions = Unit {0}
AreLawful (table ∷ others) versions = TableLaws table versions × AreLawful others versions

-- so do those of the tables of every log that can be read
abbrev pub LogsAreLawful : Type 0
LogsAreLawful = (log : List Entry) → AreReadable log → length log ≤ MAX_ENTRIES → AreLawful (tables_in log) (versions_in log)

-- the tables of a log that have no section yet
pub record AreBehind (log : List Entry) (tables : List (List Span)) (others : List Table) : Type 0 where
  pub made : List Table
  pub are : tables_in log ≡ made ++ others
  pub count : length made ≡ length tables

pub is-next : (log : List Entry) (tables : List (List Span)) (table : Table) (others : List Table) → AreBehind log tables (table ∷ others) → slice_get (tables_in log) (length tables) ≡ Some table
is-next log tables table others behind = ap (slice_get (tables_in log)) (sym behind.count) ∙ ap (λ all. slice_get all (length behind.made)) behind.are ∙ get-behind behind.made table others

pub is-last : (log : List Entry) (tables : List (List Span)) → AreBehind log tables [] → slice_get (tables_in log) (length tables) ≡ None
is-last log tables behind = ap (slice_get (tables_in log)) (sym behind.count) ∙ ap (λ all. slice_get all (length behind.made)) behind.are ∙ get-past behind.made

pub made-one : (log : List Entry) (tables : List (List Span)) (table : Table) (others : List Table) (spans : List Span) → AreBehind log tables (table ∷ others) → AreBehind log (spans ∷ tables) others
made-one log tables table others spans behind = record {
  made = behind.made ++ table ∷ [];
  are = behind.are ∙ sym (append_assoc behind.made (table ∷ []) others);
  count = length-append behind.made (table ∷ []) ∙ omega (arith, behind.count);
}

section-again : (log : List Entry) (tables : List (List Span)) (table : Table) (laws : TableLaws table (versions_in log)) (spans : List Span) (number : ℕ) (rest : List DumpLine)
    → slice_get (tables_in log) (length tables) ≡ Some table → spans_in tables + length spans ≤ MAX_SPANS → AreInPlace table.cols (versions_in log) [] spans
    → verdict (whole_lines (section_texts table spans) ++ rest) (Sections log tables) number ≡ verdict rest (Sections log (spans ∷ tables)) ((number + 1) + length spans)
unfolding verdict after_text
section-again log tables table laws spans number rest is few all =
    let step : verdict (whole_lines (section_texts table spans) ++ rest) (Sections log tables) number ≡ verdict (whole_lines (map span_text spans) ++ rest) (Rows (length spans) log tables []) (number + 1) = rw ((laws.section (length spans) (omega (arith, few))).utf8, is, laws.section_again (spans_in tables) (length spans) few) refl in
    step ∙ rows-again table log tables laws is spans [] (number + 1) rest all ∙ ap (λ (xs : List Span). verdict rest (Sections log (xs ∷ tables)) ((number + 1) + length spans)) (reverse-onto spans)

abbrev pub last_lines : List DumpLine → List DumpLine
last_lines more = Whole end_text ∷ Missing ∷ more

end-again : (laws : LineLaws) (log : List Entry) (tables : List (List Span)) (number : ℕ) (more : List DumpLine) → slice_get (tables_in log) (length tables) ≡ None
    → verdict (last_lines more) (Sections log tables) number ≡ Holds (record { entries = log; tables = reverse tables })
unfolding verdict after_text
end-again laws log tables number more is = rw (laws.end.utf8, is) refl

pub sections-again : (laws : LineLaws) (log : List Entry) (others : List Table) (left tables : List (List Span)) (number : ℕ) (more : List DumpLine)
    → AreLawful others (versions_in log) → AreBehind log tables others → spans_in tables + spans_in left ≤ MAX_SPANS → AreOfTables others (versions_in log) left
    → verdict (whole_lines (sections_texts others left) ++ last_lines more) (Sections log tables) number ≡ Holds (record { entries = log; tables = reverse (onto left tables) })
sections-again laws log [] [] tables number more lawful behind few all = end-again laws log tables number more (is-last log tables behind)
sections-again laws log [] (spans ∷ left) tables number more lawful behind few all = absurd all
sections-again laws log (table ∷ others) [] tables number more lawful behind few all = absurd all
sections-again laws log (table ∷ others) (spans ∷ left) tables number more lawful behind few all =
    let sum : spans_in (spans ∷ left) ≡ length spans + spans_in left = spans_in-cons spans left in
    let sum-tables : spans_in (spans ∷ tables) ≡ length spans + spans_in tables = spans_in-cons spans tables in
    let split : whole_lines (sections_texts (table ∷ others) (spans ∷ left)) ++ last_lines more ≡ whole_lines (section_texts table spans) ++ (whole_lines (sections_texts others left) ++ last_lines more) =
    ap (λ (lines : List DumpLine). lines ++ last_lines more) (map-append (λ (text : List ℕ). Whole text) (section_texts table spans) (sections_texts others left)) ∙ append_assoc (whole_lines (section_texts table spans)) (whole_lines (sections_texts others left)) (last_lines more) in
    ap (λ (lines : List DumpLine). verdict lines (Sections log tables) number) split
    ∙ section-again log tables table lawful.0 spans number (whole_lines (sections_texts others left) ++ last_lines more) (is-next log tables table others behind) (omega (arith, few, sum)) all.0
    ∙ sections-again laws log others left (spans ∷ tables) ((number + 1) + length spans) more lawful.1 (made-one log tables table others spans behind) (omega (arith, few, sum, sum-tables)) all.1

-- ---- the whole

count-again : (laws : LineLaws) (second : Bool) (n number : ℕ) (rest : List DumpLine) → n ≤ MAX_ENTRIES → verdict (Whole (count_text n) ∷ rest) (Count second) number ≡ verdict rest (Logs second n []) (number + 1)
unfolding verdict after_text
count-again laws second n number rest few = rw ((laws.count n few).utf8, laws.count_again n few) refl

header-again : (laws : LineLaws) (second : Bool) (number : ℕ) (rest : List DumpLine) → verdict (Whole (header second) ∷ rest) Header number ≡ verdict rest (Count second) (number + 1)
unfolding verdict
header-again laws second number rest = rw ((laws.header second).utf8, header_form-again second) refl

-- ---- the order of a log

log-tail : (entries log : List Entry) → IsLog parameters (onto entries log) → IsLog parameters log
log-tail [] log is = is
log-tail (entry ∷ entries) log is = (log-tail entries (entry ∷ log) is).1

readable-tail : (entries log : List Entry) → AreReadable (onto entries log) → AreReadable log
readable-tail [] log are = are
readable-tail (entry ∷ entries) log are = (readable-tail entries (entry ∷ log) are).1

said-tail : (second : Bool) (entries log : List Entry) → AreSaidIn second (onto entries log) → AreSaidIn second log
said-tail second [] log are = are
said-tail second (entry ∷ entries) log are = (said-tail second entries (entry ∷ log) are).1

follow-from : (second : Bool) (entries log : List Entry) → IsLog parameters (onto entries log) → AreReadable (onto entries log) → AreSaidIn second (onto entries log) → Follow second log entries
follow-from second [] log is are said = tt
follow-from second (entry ∷ entries) log is are said = (
  record {
    next = (log-tail entries (entry ∷ log) is).0;
    said = is-said (said_by entry) (readable-tail entries (entry ∷ log) are).0;
    format = (said-tail second entries (entry ∷ log) said).0;
  },
  follow-from second entries (entry ∷ log) is are said,
)

log-from : (second : Bool) (entries log : List Entry) → Follow second log entries → IsLog parameters log → IsLog parameters (onto entries log)
log-from second [] log all is = is
log-from second (entry ∷ entries) log all is = log-from second entries (entry ∷ log) all.1 (all.0.next, is)

readable-from : (second : Bool) (entries log : List Entry) → Follow second log entries → AreReadable log → AreReadable (onto entries log)
readable-from second [] log all are = are
readable-from second (entry ∷ entries) log all are = readable-from second entries (entry ∷ log) all.1 (said-is (said_by entry) all.0.said, are)

said-from : (second : Bool) (entries log : List Entry) → Follow second log entries → AreSaidIn second log → AreSaidIn second (onto entries log)
said-from second [] log all are = are
said-from second (entry ∷ entries) log all are = said-from second entries (entry ∷ log) all.1 (all.0.format, are)

-- the lines of a dump with these entries, the oldest first, and these tables; then others
abbrev pub lines_for : Bool → List Entry → List Table → List (List Span) → List DumpLine → List DumpLine
lines_for second entries others tables more =
    Whole (header second) ∷ Whole (count_text (length entries)) ∷ (whole_lines (map entry_text entries) ++ (whole_lines (sections_texts others tables) ++ last_lines more))

pub texts-lines : (second : Bool) (dump : Dump) (more : List DumpLine) → whole_lines (texts_of second dump) ++ Missing ∷ more ≡ lines_for second (reverse dump.entries) (tables_in dump.entries) dump.tables more
texts-lines second dump more =
    let entries : List (List ℕ) = map entry_text (reverse dump.entries) in
    let sections : List (List ℕ) = sections_texts (tables_in dump.entries) dump.tables in
    let one : whole_lines (entries ++ (sections ++ end_text ∷ [])) ≡ whole_lines entries ++ whole_lines (sections ++ end_text ∷ []) = map-append (λ (text : List ℕ). Whole text) entries (sections ++ end_text ∷ []) in
    let two : whole_lines (sections ++ end_text ∷ []) ≡ whole_lines sections ++ Whole end_text ∷ [] = map-append (λ (text : List ℕ). Whole text) sections (end_text ∷ []) in
    let three : whole_lines (entries ++ (sections ++ end_text ∷ [])) ++ Missing ∷ more ≡ whole_lines entries ++ (whole_lines sections ++ last_lines more) =
    ap (λ (lines : List DumpLine). lines ++ Missing ∷ more) one ∙ append_assoc (whole_lines entries) (whole_lines (sections ++ end_text ∷ [])) (Missing ∷ more)
    ∙ ap (λ (lines : List DumpLine). whole_lines entries ++ lines) (ap (λ (lines : List DumpLine). lines ++ Missing ∷ more) two ∙ append_assoc (whole_lines sections) (Whole end_text ∷ []) (Missing ∷ more)) in
    ap (λ (lines : List DumpLine). Whole (header second) ∷ Whole (count_text (length dump.entries)) ∷ lines) three
    ∙ ap (λ (n : ℕ). Whole (header second) ∷ Whole (count_text n) ∷ (whole_lines entries ++ (whole_lines sections ++ last_lines more))) (sym (length-reverse dump.entries))

pub all-behind : (log : List Entry) → AreBehind log [] (tables_in log)
all-behind log = record { made = []; are = refl; count = refl }

no-spans : spans_in [] ≡ 0
no-spans = refl

-- a dump is read from its lines
pub lines-read : (laws : LineLaws) (second : Bool) (dump : Dump) (more : List DumpLine) → AreLawful (tables_in dump.entries) (versions_in dump.entries) → IsDump dump
    → AreSaidIn second dump.entries → verdict (whole_lines (texts_of second dump) ++ Missing ∷ more) Header 1 ≡ Holds dump
lines-read laws second dump more lawful is said =
    let entries : List Entry = reverse dump.entries in
    let others : List Table = tables_in dump.entries in
    let log : onto entries [] ≡ dump.entries = onto-all entries ∙ reverse-reverse dump.entries in
    let back : reverse (onto dump.tables []) ≡ dump.tables = reverse-onto dump.tables in
    let follow : Follow second [] entries = follow-from second entries [] (subst (IsLog parameters) (sym log) is.log) (subst AreReadable (sym log) is.commands) (subst (AreSaidIn second) (sym log) said) in
    let few : length entries ≤ MAX_ENTRIES = omega (arith, length-reverse dump.entries, is.few_entries) in
    let rest : List DumpLine = whole_lines (sections_texts others dump.tables) ++ last_lines more in
    ap (λ (lines : List DumpLine). verdict lines Header 1) (texts-lines second dump more)
    ∙ header-again laws second 1 (Whole (count_text (length entries)) ∷ (whole_lines (map entry_text entries) ++ rest))
    ∙ count-again laws second (length entries) (1 + 1) (whole_lines (map entry_text entries) ++ rest) few
    ∙ logs-again laws second entries [] ((1 + 1) + 1) rest follow
    ∙ ap (λ (log : List Entry). verdict rest (Sections log []) (((1 + 1) + 1) + length entries)) log
    ∙ sections-again laws dump.entries others dump.tables [] (((1 + 1) + 1) + length entries) more lawful (all-behind dump.entries) (omega (arith, is.few_spans, no-spans)) is.spans
    ∙ ap (λ (tables : List (List Span)). Holds (record { entries = dump.entries; tables = tables })) back

-- ---- what is read was written

no_fail : (f number : ℕ) (dump : Dump) → Fails f number ≡ Holds dump → ⊥
no_fail f number dump e = cc

abbrev due_ok : Due → Result Due ℕ
due_ok x = Ok x

ok_is : (x y : Due) → due_ok x ≡ Ok y → x ≡ y
ok_is x y e = cc

-- a line that was taken, by the function that a rule applies to its text
pub record TookLine (line : DumpLine) (f : List ℕ → Result Due ℕ) (rest : Due → Verdict) (dump : Dump) : Type 0 where
  pub text : List ℕ
  pub is : line ≡ Whole text
  pub due : Due
  pub taken : f text ≡ Ok due
  pub holds : rest due ≡ Holds dump

line-text : (text : List ℕ) (f : List ℕ → Result Due ℕ) (number : ℕ) (rest : Due → Verdict) (dump : Dump) (r : Result Due ℕ) → f text ≡ r → then_verdict r number rest ≡ Holds dump → TookLine (Whole text) f rest dump
line-text text f number rest dump (Ok due) taken e = record { text = text; is = refl; due = due; taken = taken; holds = e }
line-text text f number rest dump (Err n) taken e = absurd cc

line-took : (line : DumpLine) (f : List ℕ → Result Due ℕ) (number : ℕ) (rest : Due → Verdict) (dump : Dump) → then_verdict (text_of line >>= f) number rest ≡ Holds dump → TookLine line f rest dump
line-took (Whole text) f number rest dump e = elim (cases_Bool (is_utf8 text)) [
  | inl u ↦ let g = rw u at e in line-text text f number rest dump (f text) refl g
  | inr u ↦ let g = rw u at e in absurd (no_fail 1 number dump g)
]
line-took (Cut text) f number rest dump e = elim (cases_Bool (is_utf8 text)) [
  | inl u ↦ let g = rw u at e in absurd (no_fail 3 number dump g)
  | inr u ↦ let g = rw u at e in absurd (no_fail 1 number dump g)
]
line-took Missing f number rest dump e = absurd (no_fail 3 number dump e)

bound : {A : Type 0} (r : Result A ℕ) (f : A → Due) (due : Due) → (r >>= (λ x. Ok (f x))) ≡ Ok due → (x : A) × (r ≡ Ok x) × (f x ≡ due)
bound (Ok x) f due e = (x, refl, ok_is (f x) due e)
bound (Err n) f due e = absurd cc

-- lines, by the text of the first
line-is : (line : DumpLine) (text due : List ℕ) (lines rest : List DumpLine) → line ≡ Whole text → text ≡ due → lines ≡ rest → line ∷ lines ≡ Whole due ∷ rest
line-is line text due lines rest first same more = ap (λ (x : DumpLine). x ∷ lines) (first ∙ ap (λ (x : List ℕ). Whole x) same) ∙ ap (λ (xs : List DumpLine). Whole due ∷ xs) more

pub record TookLogs (second : Bool) (log : List Entry) (left : ℕ) (lines : List DumpLine) (dump : Dump) : Type 0 where
  pub entries : List Entry
  pub rest : List DumpLine
  pub number : ℕ
  pub is : lines ≡ whole_lines (map entry_text entries) ++ rest
  pub count : length entries ≡ left
  pub follow : Follow second log entries
  pub after : verdict rest (Sections (onto entries log) []) number ≡ Holds dump

pub logs-taken : (laws : LineLaws) (second : Bool) (left : ℕ) (log : List Entry) (lines : List DumpLine) (number : ℕ) (dump : Dump) → verdict lines (Logs second left log) number ≡ Holds dump → TookLogs second log left lines dump
unfolding verdict after_text
logs-taken laws second zero log [] number dump e = absurd cc
logs-taken laws second zero log (line ∷ lines) number dump e = record { entries = []; rest = line ∷ lines; number = number; is = refl; count = refl; follow = tt; after = e }
logs-taken laws second (suc left) log [] number dump e = absurd cc
logs-taken laws second (suc left) log (line ∷ lines) number dump e =
    let t = line-took line (after_text (Logs second (suc left) log)) number (λ next. verdict lines next (number + 1)) dump e in
    let x = bound (log_rule second log t.text) (λ entry. Logs second left (entry ∷ log)) t.due t.taken in
    let w = laws.entry_taken second log t.text x.0 x.1 in
    let more = logs-taken laws second left (x.0 ∷ log) lines (number + 1) dump (subst (λ (due : Due). verdict lines due (number + 1) ≡ Holds dump) (sym x.2) t.holds) in
    record {
      entries = x.0 ∷ more.entries;
      rest = more.rest;
      number = more.number;
      is = line-is line t.text (entry_text x.0) lines (whole_lines (map entry_text more.entries) ++ more.rest) t.is w.0 more.is;
      count = ap suc more.count;
      follow = (w.1, more.follow);
      after = more.after;
    }

pub record TookRows (cols : List Column) (log : List Entry) (tables : List (List Span)) (rows : List Span) (left : ℕ) (lines : List DumpLine) (dump : Dump) : Type 0 where
  pub spans : List Span
  pub rest : List DumpLine
  pub number : ℕ
  pub is : lines ≡ whole_lines (map span_text spans) ++ rest
  pub count : length spans ≡ left
  pub follow : AreInPlace cols (versions_in log) rows spans
  pub after : verdict rest (Sections log (reverse (onto spans rows) ∷ tables)) number ≡ Holds dump

pub rows-taken : (table : Table) (log : List Entry) (tables : List (List Span)) (laws : TableLaws table (versions_in log)) → slice_get (tables_in log) (length tables) ≡ Some table
    → (left : ℕ) (rows : List Span) (lines : List DumpLine) (number : ℕ) (dump : Dump) → verdict lines (Rows left log tables rows) number ≡ Holds dump → TookRows table.cols log tables rows left lines dump
unfolding verdict after_text
rows-taken table log tables laws is zero rows [] number dump e = absurd cc
rows-taken table log tables laws is zero rows (line ∷ lines) number dump e = record { spans = []; rest = line ∷ lines; number = number; is = refl; count = refl; follow = tt; after = e }
rows-taken table log tables laws is (suc left) rows [] number dump e = absurd cc
rows-taken table log tables laws is (suc left) rows (line ∷ lines) number dump e =
    let t = line-took line (after_text (Rows (suc left) log tables rows)) number (λ next. verdict lines next (number + 1)) dump e in
    let taken : (row_rule table.cols (versions_in log) rows t.text >>= (λ span. Ok (Rows left log tables (span ∷ rows)))) ≡ Ok t.due = rw is at t.taken in
    let x = bound (row_rule table.cols (versions_in log) rows t.text) (λ span. Rows left log tables (span ∷ rows)) t.due taken in
    let w = laws.row_taken rows t.text x.0 x.1 in
    let more = rows-taken table log tables laws is left (x.0 ∷ rows) lines (number + 1) dump (subst (λ (due : Due). verdict lines due (number + 1) ≡ Holds dump) (sym x.2) t.holds) in
    record {
      spans = x.0 ∷ more.spans;
      rest = more.rest;
      number = more.number;
      is = line-is line t.text (span_text x.0) lines (whole_lines (map span_text more.spans) ++ more.rest) t.is w.0 more.is;
      count = ap suc more.count;
      follow = (w.1, more.follow);
      after = more.after;
    }

-- lines that begin with the section of a table
pub record TookSection (table : Table) (log : List Entry) (tables : List (List Span)) (lines : List DumpLine) (dump : Dump) : Type 0 where
  pub spans : List Span
  pub rest : List DumpLine
  pub number : ℕ
  pub is : lines ≡ whole_lines (section_texts table spans) ++ rest
  pub few : spans_in tables + length spans ≤ MAX_SPANS
  pub follow : AreInPlace table.cols (versions_in log) [] spans
  pub after : verdict rest (Sections log (spans ∷ tables)) number ≡ Holds dump

section-taken : (table : Table) (log : List Entry) (tables : List (List Span)) (laws : TableLaws table (versions_in log)) → slice_get (tables_in log) (length tables) ≡ Some table
    → (lines : List DumpLine) (number : ℕ) (dump : Dump) → verdict lines (Sections log tables) number ≡ Holds dump → TookSection table log tables lines dump
unfolding verdict after_text
section-taken table log tables laws is [] number dump e = absurd cc
section-taken table log tables laws is (line ∷ lines) number dump e =
    let t = line-took line (after_text (Sections log tables)) number (λ next. verdict lines next (number + 1)) dump e in
    let taken : (section_rule (spans_in tables) table t.text >>= (λ n. Ok (Rows n log tables []))) ≡ Ok t.due = rw is at t.taken in
    let x = bound (section_rule (spans_in tables) table t.text) (λ n. Rows n log tables []) t.due taken in
    let w = laws.section_taken (spans_in tables) t.text x.0 x.1 in
    let more = rows-taken table log tables laws is x.0 [] lines (number + 1) dump (subst (λ (next : Due). verdict lines next (number + 1) ≡ Holds dump) (sym x.2) t.holds) in
    record {
      spans = more.spans;
      rest = more.rest;
      number = more.number;
      is = line-is line t.text (section_text table.name (length more.spans)) lines (whole_lines (map span_text more.spans) ++ more.rest) t.is (w.0 ∙ ap (section_text table.name) (sym more.count)) more.is;
      few = subst (λ (n : ℕ). spans_in tables + n ≤ MAX_SPANS) (sym more.count) w.1;
      follow = more.follow;
      after = subst (λ (spans : List Span). verdict more.rest (Sections log (spans ∷ tables)) more.number ≡ Holds dump) (reverse-onto more.spans) more.after;
    }

pub record TookEnd (log : List Entry) (tables : List (List Span)) (lines : List DumpLine) (dump : Dump) : Type 0 where
  pub more : List DumpLine
  pub is : lines ≡ last_lines more
  pub holds : record { entries = log; tables = reverse tables } ≡ dump

pub held : (a b : Dump) → Holds a ≡ Holds b → a ≡ b
held a b e = cc

nothing-taken : (line : DumpLine) (number : ℕ) (due dump : Dump) → end_verdict (nothing_line line) number due ≡ Holds dump → (line ≡ Missing) × (due ≡ dump)
nothing-taken (Whole text) number due dump e = elim (cases_Bool (is_utf8 text)) [ inl u ↦ let g = rw u at e in absurd (no_fail 14 number dump g) | inr u ↦ let g = rw u at e in absurd (no_fail 1 number dump g) ]
nothing-taken (Cut text) number due dump e = elim (cases_Bool (is_utf8 text)) [ inl u ↦ let g = rw u at e in absurd (no_fail 3 number dump g) | inr u ↦ let g = rw u at e in absurd (no_fail 1 number dump g) ]
nothing-taken Missing number due dump e = (refl, held due dump e)

rule_took : (number : ℕ) (b : Bool) (f : Unit {0} → Due) (due : Due) → (rule_holds number b >>= (λ x. Ok (f x))) ≡ Ok due → (b ≡ true) × (f tt ≡ due)
rule_took number true f due e = (refl, ok_is (f tt) due e)
rule_took number false f due e = absurd cc

lines-nothing : (lines : List DumpLine) (number : ℕ) (due dump : Dump) → verdict lines (Nothing due) number ≡ Holds dump → (more : List DumpLine) × (lines ≡ Missing ∷ more) × (due ≡ dump)
unfolding verdict
lines-nothing [] number due dump e = absurd cc
lines-nothing (line ∷ lines) number due dump e =
    let n = nothing-taken line number due dump e in
    (lines, ap (λ (x : DumpLine). x ∷ lines) n.0, n.1)

end-taken : (log : List Entry) (tables : List (List Span)) (lines : List DumpLine) (number : ℕ) (dump : Dump) → slice_get (tables_in log) (length tables) ≡ None → verdict lines (Sections log tables) number ≡ Holds dump → TookEnd log tables lines dump
unfolding verdict after_text
end-taken log tables [] number dump is e = absurd cc
end-taken log tables (line ∷ lines) number dump is e =
    let t = line-took line (after_text (Sections log tables)) number (λ next. verdict lines next (number + 1)) dump e in
    let due : Dump = record { entries = log; tables = reverse tables } in
    let taken : (rule_holds 14 (bytes_eq t.text end_text) >>= (λ x. Ok (Nothing due))) ≡ Ok t.due = rw is at t.taken in
    let r = rule_took 14 (bytes_eq t.text end_text) (λ x. Nothing due) t.due taken in
    let n = lines-nothing lines (number + 1) due dump (subst (λ (next : Due). verdict lines next (number + 1) ≡ Holds dump) (sym r.1) t.holds) in
    record { more = n.0; is = line-is line t.text end_text lines (Missing ∷ n.0) t.is ((bytes_eq-Decides t.text end_text).0 r.0) n.1; holds = n.2 }

-- lines that begin with the sections of all tables that have none yet, and the last line
pub record TookSections (others : List Table) (log : List Entry) (tables : List (List Span)) (lines : List DumpLine) (dump : Dump) : Type 0 where
  pub left : List (List Span)
  pub more : List DumpLine
  pub is : lines ≡ whole_lines (sections_texts others left) ++ last_lines more
  pub few : spans_in tables + spans_in left ≤ MAX_SPANS
  pub follow : AreOfTables others (versions_in log) left
  pub holds : record { entries = log; tables = reverse (onto left tables) } ≡ dump

pub sections-taken : (others : List Table) (log : List Entry) (tables : List (List Span)) (lines : List DumpLine) (number : ℕ) (dump : Dump) → AreLawful others (versions_in log) → AreBehind log tables others
    → spans_in tables ≤ MAX_SPANS → verdict lines (Sections log tables) number ≡ Holds dump → TookSections others log tables lines dump
sections-taken [] log tables lines number dump lawful behind few e =
    let t = end-taken log tables lines number dump (is-last log tables behind) e in
    record { left = []; more = t.more; is = t.is; few = omega (arith, few, no-spans); follow = tt; holds = t.holds }
sections-taken (table ∷ others) log tables lines number dump lawful behind few e =
    let t = section-taken table log tables lawful.0 (is-next log tables table others behind) lines number dump e in
    let sum-tables : spans_in (t.spans ∷ tables) ≡ length t.spans + spans_in tables = spans_in-cons t.spans tables in
    let more = sections-taken others log (t.spans ∷ tables) t.rest t.number dump lawful.1 (made-one log tables table others t.spans behind) (omega (arith, t.few, sum-tables)) t.after in
    let sum : spans_in (t.spans ∷ more.left) ≡ length t.spans + spans_in more.left = spans_in-cons t.spans more.left in
    let split : whole_lines (sections_texts (table ∷ others) (t.spans ∷ more.left)) ++ last_lines more.more ≡ whole_lines (section_texts table t.spans) ++ (whole_lines (sections_texts others more.left) ++ last_lines more.more) =
    ap (λ (lines : List DumpLine). lines ++ last_lines more.more) (map-append (λ (text : List ℕ). Whole text) (section_texts table t.spans) (sections_texts others more.left)) ∙ append_assoc (whole_lines (section_texts table t.spans)) (whole_lines (sections_texts others more.left)) (last_lines more.more) in
    record {
      left = t.spans ∷ more.left;
      more = more.more;
      is = t.is ∙ ap (λ (lines : List DumpLine). whole_lines (section_texts table t.spans) ++ lines) more.is ∙ sym split;
      few = omega (arith, more.few, sum, sum-tables);
      follow = (t.follow, more.follow);
      holds = more.holds;
    }

-- a first line that names a format
record TookHeader (line : DumpLine) (lines : List DumpLine) (number : ℕ) (dump : Dump) : Type 0 where
  second : Bool
  is : line ≡ Whole (header second)
  holds : verdict lines (Count second) (number + 1) ≡ Holds dump

cut_header : (o : Option Bool) (lines : List DumpLine) (number : ℕ) (dump : Dump) → then_verdict (rule 2 o >>= (λ second. Err 3)) number (λ next. verdict lines next (number + 1)) ≡ Holds dump → ⊥
cut_header None lines number dump e = no_fail 2 number dump e
cut_header (Some second) lines number dump e = no_fail 3 number dump e

whole_header : (text : List ℕ) (o : Option Bool) (lines : List DumpLine) (number : ℕ) (dump : Dump) → header_of text ≡ o
    → then_verdict (rule 2 o >>= (λ second. Ok (Count second))) number (λ next. verdict lines next (number + 1)) ≡ Holds dump → TookHeader (Whole text) lines number dump
whole_header text None lines number dump is e = absurd (no_fail 2 number dump e)
whole_header text (Some second) lines number dump is e = record { second = second; is = ap (λ (x : List ℕ). Whole x) (header-takes text second is); holds = e }

header-taken : (line : DumpLine) (lines : List DumpLine) (number : ℕ) (dump : Dump) → verdict (line ∷ lines) Header number ≡ Holds dump → TookHeader line lines number dump
unfolding verdict
header-taken (Whole text) lines number dump e = elim (cases_Bool (is_utf8 text)) [
  | inl u ↦ let g = rw u at e in whole_header text (header_of text) lines number dump refl g
  | inr u ↦ let g = rw u at e in absurd (no_fail 1 number dump g)
]
header-taken (Cut text) lines number dump e = elim (cases_Bool (is_utf8 text)) [
  | inl u ↦ let g = rw u at e in absurd (cut_header (header_of text) lines number dump g)
  | inr u ↦ let g = rw u at e in absurd (no_fail 1 number dump g)
]
header-taken Missing lines number dump e = absurd (no_fail 3 number dump e)

rule_some : {A : Type 0} (number : ℕ) (o : Option A) (f : A → Due) (due : Due) → (rule number o >>= (λ x. Ok (f x))) ≡ Ok due → (x : A) × (o ≡ Some x) × (f x ≡ due)
rule_some number None f due e = absurd cc
rule_some number (Some x) f due e = (x, refl, ok_is (f x) due e)

-- lines that hold a dump are its lines, and the dump keeps the rules
pub record TookDump (lines : List DumpLine) (dump : Dump) : Type 0 where
  pub second : Bool
  pub more : List DumpLine
  pub is : lines ≡ whole_lines (texts_of second dump) ++ Missing ∷ more
  pub format : has_read_committed dump.entries ≡ true → second ≡ true
  pub rules : IsDump dump

no-spans-few : spans_in [] ≤ MAX_SPANS
no-spans-few = omega (arith, no-spans)

pub lines-taken : (laws : LineLaws) (lines : List DumpLine) (dump : Dump) → LogsAreLawful
    → verdict lines Header 1 ≡ Holds dump → TookDump lines dump
unfolding verdict after_text
lines-taken laws [] dump lawful e = absurd cc
lines-taken laws (first ∷ []) dump lawful e = let h = header-taken first [] 1 dump e in absurd (no_fail 3 (1 + 1) dump h.holds)
lines-taken laws (first ∷ second ∷ lines) dump lawful e =
    let h = header-taken first (second ∷ lines) 1 dump e in
    let t = line-took second (after_text (Count h.second)) (1 + 1) (λ next. verdict lines next ((1 + 1) + 1)) dump h.holds in
    let n = rule_some 4 (count_of t.text) (λ n. Logs h.second n []) t.due t.taken in
    let c = laws.count_taken t.text n.0 n.1 in
    let l = logs-taken laws h.second n.0 [] lines ((1 + 1) + 1) dump (subst (λ (due : Due). verdict lines due ((1 + 1) + 1) ≡ Holds dump) (sym n.2) t.holds) in
    let log : List Entry = onto l.entries [] in
    let is-log : IsLog parameters log = log-from h.second l.entries [] l.follow tt in
    let are-readable : AreReadable log = readable-from h.second l.entries [] l.follow tt in
    let said : AreSaidIn h.second log = said-from h.second l.entries [] l.follow tt in
    let length-is : length log ≡ length l.entries = ap length (onto-all l.entries) ∙ length-reverse l.entries in
    let few : length log ≤ MAX_ENTRIES = omega (arith, c.1, l.count, length-is) in
    let s = sections-taken (tables_in log) log [] l.rest l.number dump (lawful log are-readable few) (all-behind log) no-spans-few l.after in
    let tables-is : reverse (onto s.left []) ≡ s.left = reverse-onto s.left in
    let due : Dump = record { entries = log; tables = s.left } in
    let is-dump : due ≡ dump = ap (λ (tables : List (List Span)). record { entries = log; tables = tables }) (sym tables-is) ∙ s.holds in
    let back : reverse log ≡ l.entries = reverse-onto l.entries in
    let due-lines : first ∷ second ∷ lines ≡ lines_for h.second (reverse due.entries) (tables_in log) s.left s.more =
    line-is first (header h.second) (header h.second) (second ∷ lines) (Whole (count_text (length (reverse log))) ∷ (whole_lines (map entry_text (reverse log)) ++ (whole_lines (sections_texts (tables_in log) s.left) ++ last_lines s.more))) h.is refl
    (line-is second t.text (count_text (length (reverse log))) lines (whole_lines (map entry_text (reverse log)) ++ (whole_lines (sections_texts (tables_in log) s.left) ++ last_lines s.more)) t.is
    (c.0 ∙ ap count_text (sym l.count ∙ ap length (sym back)))
    (l.is ∙ ap (λ (rest : List DumpLine). whole_lines (map entry_text l.entries) ++ rest) s.is ∙ ap (λ (entries : List Entry). whole_lines (map entry_text entries) ++ (whole_lines (sections_texts (tables_in log) s.left) ++ last_lines s.more)) (sym back))) in
    let rules : IsDump due = record { few_entries = few; log = is-log; commands = are-readable; few_spans = omega (arith, s.few, no-spans); spans = s.follow } in
    subst (λ (x : Dump). TookDump (first ∷ second ∷ lines) x) is-dump (record { second = h.second; more = s.more; is = due-lines ∙ sym (texts-lines h.second due s.more); format = said-format h.second log said; rules = rules })

-- ---- lines and bytes

abbrev pub HasNoLineFeed : List ℕ → Type 0
HasNoLineFeed text = list_any (λ byte. eqb byte 10) text ≡ false

line-again : (text bytes : List ℕ) → HasNoLineFeed text → lines_of (text ++ 10 ∷ bytes) ≡ Whole text ∷ lines_of bytes
line-again [] bytes one = refl
line-again (byte ∷ text) bytes one = elim (cases_Bool (eqb byte 10)) [
  | inl feed ↦ absurd (false≢true (sym one ∙ (rw feed refl)))
  | inr other ↦
      let rest : HasNoLineFeed text = rw other at one in
      rw (other, line-again text bytes rest) refl
]

pub lines-again : (texts : List (List ℕ)) → AllByRecursion HasNoLineFeed texts → lines_of (flat_map with_newline texts) ≡ whole_lines texts ++ Missing ∷ []
lines-again [] all = refl
lines-again (text ∷ texts) all =
    ap lines_of (append_assoc text (10 ∷ []) (flat_map with_newline texts)) ∙ line-again text (flat_map with_newline texts) all.0 ∙ ap (λ (lines : List DumpLine). Whole text ∷ lines) (lines-again texts all.1)

-- the bytes of lines
abbrev pub bytes_of : List DumpLine → List ℕ
bytes_of [] = []
bytes_of (Whole text ∷ lines) = text ++ 10 ∷ bytes_of lines
bytes_of (Cut text ∷ lines) = text
bytes_of (Missing ∷ lines) = []

put-bytes : (byte : ℕ) (lines : List DumpLine) → bytes_of (put byte lines) ≡ byte ∷ bytes_of lines
put-bytes byte [] = refl
put-bytes byte (Whole text ∷ lines) = refl
put-bytes byte (Cut text ∷ lines) = refl
put-bytes byte (Missing ∷ lines) = refl

-- the lines of a text hold all of its bytes
pub bytes-lines : (bytes : List ℕ) → bytes_of (lines_of bytes) ≡ bytes
bytes-lines [] = refl
bytes-lines (byte ∷ bytes) = elim (cases_Bool (eqb byte 10)) [
  | inl feed ↦ rw feed (ap (λ (x : List ℕ). 10 ∷ x) (bytes-lines bytes) ∙ ap (λ (c : ℕ). c ∷ bytes) (sym (eqb-true byte 10 feed)))
  | inr other ↦ rw other (put-bytes byte (lines_of bytes) ∙ ap (λ (x : List ℕ). byte ∷ x) (bytes-lines bytes))
]

bytes-whole : (texts : List (List ℕ)) (more : List DumpLine) → bytes_of (whole_lines texts ++ Missing ∷ more) ≡ flat_map with_newline texts
bytes-whole [] more = refl
bytes-whole (text ∷ texts) more = ap (λ (bytes : List ℕ). text ++ 10 ∷ bytes) (bytes-whole texts more) ∙ sym (append_assoc text (10 ∷ []) (flat_map with_newline texts))

-- ---- each line of a dump is one line

pub all-append : (P : List ℕ → Type 0) (xs ys : List (List ℕ)) → AllByRecursion P xs → AllByRecursion P ys → AllByRecursion P (xs ++ ys)
all-append P [] ys left right = right
all-append P (x ∷ xs) ys left right = (left.0, all-append P xs ys left.1 right)

entries-lines : (laws : LineLaws) (second : Bool) (entries log : List Entry) → Follow second log entries → AllByRecursion HasNoLineFeed (map entry_text entries)
entries-lines laws second [] log all = tt
entries-lines laws second (entry ∷ entries) log all = ((laws.entry second log entry all.0).free, entries-lines laws second entries (entry ∷ log) all.1)

rows-lines : (table : Table) (versions : ℕ) (laws : TableLaws table versions) (before spans : List Span) → AreInPlace table.cols versions before spans → AllByRecursion HasNoLineFeed (map span_text spans)
rows-lines table versions laws before [] all = tt
rows-lines table versions laws before (span ∷ spans) all = ((laws.row before span all.0).free, rows-lines table versions laws (span ∷ before) spans all.1)

sections-lines : (others : List Table) (versions : ℕ) (tables : List (List Span)) → AreLawful others versions → spans_in tables ≤ MAX_SPANS → AreOfTables others versions tables → AllByRecursion HasNoLineFeed (sections_texts others tables)
sections-lines [] versions [] lawful few all = tt
sections-lines [] versions (spans ∷ tables) lawful few all = absurd all
sections-lines (table ∷ others) versions [] lawful few all = absurd all
sections-lines (table ∷ others) versions (spans ∷ tables) lawful few all =
    let sum = spans_in-cons spans tables in
    all-append HasNoLineFeed (section_texts table spans) (sections_texts others tables) ((lawful.0.section (length spans) (omega (arith, few, sum))).free, rows-lines table versions lawful.0 [] spans all.0) (sections-lines others versions tables lawful.1 (omega (arith, few, sum)) all.1)

texts-one-line : (laws : LineLaws) (second : Bool) (dump : Dump) → AreLawful (tables_in dump.entries) (versions_in dump.entries) → IsDump dump → AreSaidIn second dump.entries
    → AllByRecursion HasNoLineFeed (texts_of second dump)
texts-one-line laws second dump lawful is said =
    let entries : List Entry = reverse dump.entries in
    let log : onto entries [] ≡ dump.entries = onto-all entries ∙ reverse-reverse dump.entries in
    let follow : Follow second [] entries = follow-from second entries [] (subst (IsLog parameters) (sym log) is.log) (subst AreReadable (sym log) is.commands) (subst (AreSaidIn second) (sym log) said) in
    let sections : List (List ℕ) = sections_texts (tables_in dump.entries) dump.tables in (
      (laws.header second).free,
      (
        (laws.count (length dump.entries) is.few_entries).free,
        all-append HasNoLineFeed (map entry_text entries) (sections ++ end_text ∷ []) (entries-lines laws second entries [] follow)
            (all-append HasNoLineFeed sections (end_text ∷ []) (sections-lines (tables_in dump.entries) (versions_in dump.entries) dump.tables lawful is.few_spans is.spans) (laws.end.free, tt)),
      ),
    )

-- ---- the laws

pub well-formed-read : (laws : LineLaws) (lawful : LogsAreLawful)
    → (bytes : List ℕ) (dump : Dump) → IsTextOf bytes dump → verdict_on bytes ≡ Holds dump
well-formed-read laws lawful bytes dump is =
    let here : AreLawful (tables_in dump.entries) (versions_in dump.entries) = lawful dump.entries is.rules.commands is.rules.few_entries in
    let said : AreSaidIn is.second dump.entries = format-said is.second dump.entries is.format in
    ap (λ (lines : List DumpLine). verdict lines Header 1) (ap lines_of is.text ∙ lines-again (texts_of is.second dump) (texts-one-line laws is.second dump here is.rules said))
    ∙ lines-read laws is.second dump [] here is.rules said

pub read-well-formed : (laws : LineLaws) (lawful : LogsAreLawful)
    → (bytes : List ℕ) (dump : Dump) → verdict_on bytes ≡ Holds dump → IsTextOf bytes dump
read-well-formed laws lawful bytes dump holds =
    let t = lines-taken laws (lines_of bytes) dump lawful holds in
    record { second = t.second; text = sym (bytes-lines bytes) ∙ ap bytes_of t.is ∙ bytes-whole (texts_of t.second dump) t.more; format = t.format; rules = t.rules }
