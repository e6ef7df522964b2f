-- How the verdict goes on, line by line.
use Rattle.gp_dump.proofs.Prelude.{◌≡◌, ℕ, suc, ◌+◌, ◌≤◌, Bool, true, false, List, [], ◌∷◌, length, reverse, Option, Some, None, Result, Ok, Err, refl, sym, ap, subst, ◌∙◌, arith, inl, inr, is_utf8, bytes_eq, cases_Bool, Column, Table, Span, Entry, versions_in, tables_in, count_of, header_of, end_text}
use Rattle.std.specs.Prelude.{slice_get}
use Rattle.std.specs.Result.{IsErrAnd}
use Rattle.std.proofs.lemmas.Option.{slice_get_past}
use Rattle.gp_dump.specs.declared.error.DumpStop.{DumpStop}
use Rattle.gp_dump.specs.declared.error.LineStop.{LineStop}
use Rattle.gp_dump.specs.declared.error.LineStop.TheVariants as stop
use Rattle.gp_dump.specs.Dumps.{Dump, spans_in}
use Rattle.gp_dump.specs.Lines.{DumpLine, Whole, Cut, Missing, lines_of}
use Rattle.gp_dump.specs.Reading.{AreDue, Continues, LineFails, Stops, behind, stop_at, takes_text, verdict_from}
use Rattle.gp_dump.specs.Rules.{Due, Header, Count, Logs, Sections, Rows, Nothing}
use Rattle.gp_dump.specs.Verdicts.{◌>>=◌, Verdict, Holds, Fails, after_text, cols_of, end_verdict, header_line, log_rule, nothing_line, row_rule, rule, section_rule, text_of, then_verdict, verdict}

-- ---- a line with a text

whole : (due : Due) (text bytes : List ℕ) (number : ℕ) → takes_text due ≡ true → is_utf8 text ≡ true
    → verdict (Whole text ∷ lines_of bytes) due number ≡ then_verdict (after_text due text) number (λ next. verdict_from bytes next (number + 1))
unfolding verdict
whole Header text bytes number takes utf8 = absurd cc
whole (Count second) text bytes number takes utf8 = rw utf8 refl
whole (Logs second left log) text bytes number takes utf8 = rw utf8 refl
whole (Sections log tables) text bytes number takes utf8 = rw utf8 refl
whole (Rows left log tables rows) text bytes number takes utf8 = rw utf8 refl
whole (Nothing dump) text bytes number takes utf8 = absurd cc

pub text-whole : (all : List ℕ) (due : Due) (text bytes : List ℕ) (number : ℕ) → lines_of all ≡ Whole text ∷ lines_of bytes → takes_text due ≡ true → is_utf8 text ≡ true
    → verdict_from all due number ≡ then_verdict (after_text due text) number (λ next. verdict_from bytes next (number + 1))
text-whole all due text bytes number is takes utf8 = ap (λ (x : List DumpLine). verdict x due number) is ∙ whole due text bytes number takes utf8

bad : (due : Due) (line : DumpLine) (lines : List DumpLine) (number f : ℕ) → takes_text due ≡ true → text_of line ≡ Err f → verdict (line ∷ lines) due number ≡ Fails f number
unfolding verdict
bad Header line lines number f takes e = absurd cc
bad (Count second) line lines number f takes e = rw e refl
bad (Logs second left log) line lines number f takes e = rw e refl
bad (Sections log tables) line lines number f takes e = rw e refl
bad (Rows left log tables rows) line lines number f takes e = rw e refl
bad (Nothing dump) line lines number f takes e = absurd cc

pub text-bad : (all : List ℕ) (due : Due) (line : DumpLine) (lines : List DumpLine) (number f : ℕ) → lines_of all ≡ line ∷ lines → text_of line ≡ Err f → takes_text due ≡ true
    → verdict_from all due number ≡ Fails f number
text-bad all due line lines number f is e takes = ap (λ (x : List DumpLine). verdict x due number) is ∙ bad due line lines number f takes e

pub ruleset text_steps = (text-whole, text-bad)

-- ---- the exit of a `?`, and a last call

pub continues-err : {X : Type 0} (r : Result X DumpStop) (rest : X → Verdict) (s : DumpStop) (here whole : Verdict) → IsErrAnd r (λ y. y ≡ s) → whole ≡ here → Stops s here → Continues r rest whole
continues-err (Ok x) rest s here whole is same stops = absurd is
continues-err (Err y) rest s here whole is same stops =
    let P : DumpStop → Verdict → Type 0 = λ d v. Stops d v in
    subst (λ (d : DumpStop). P d whole) (sym is) (subst (λ (v : Verdict). P s v) (sym same) stops)

pub continues-on : {X : Type 0} (r : Result X DumpStop) (f g : X → Verdict) (here whole : Verdict) → whole ≡ here → ((x : X) → f x ≡ g x) → Continues r f here → Continues r g whole
continues-on (Ok x) f g here whole same next is = same ∙ is ∙ next x
continues-on (Err s) f g here whole same next stops = subst (λ (v : Verdict). Stops s v) (sym same) stops

-- ---- log lines

pub entry-step : (second : Bool) (left next : ℕ) (log : List Entry) (text : List ℕ) (e : Entry) (number : ℕ) (rest : Due → Verdict) → left ≡ next + 1 → log_rule second log text ≡ Ok e
    → then_verdict (after_text (Logs second left log) text) number rest ≡ rest (Logs second next (e ∷ log))
unfolding after_text
entry-step second left next log text e number rest is given =
    let by_one : left ≡ suc next = omega (arith, is) in
    rw (by_one, given) refl

pub entry-fails : (second : Bool) (left next : ℕ) (log : List Entry) (text : List ℕ) (s : LineStop) (number : ℕ) (rest : Due → Verdict) (whole : Verdict) (answer : DumpStop) → left ≡ next + 1 → answer ≡ stop_at s number
    → whole ≡ then_verdict (after_text (Logs second left log) text) number rest → LineFails s (log_rule second log text) → Stops answer whole
unfolding after_text
entry-fails second left next log text (stop.Rule f) number rest whole answer is told at fails =
    let by_one : left ≡ suc next = omega (arith, is) in
    let e : then_verdict (after_text (Logs second left log) text) number rest ≡ Fails f number = rw (by_one, fails) refl in
    rw told (at ∙ e)
entry-fails second left next log text stop.NoMemory number rest whole answer is told at fails = rw told tt

logs-settled : (second : Bool) (lines : List DumpLine) (log : List Entry) (number : ℕ) → verdict lines (Logs second 0 log) number ≡ verdict lines (Sections log []) number
unfolding verdict after_text
logs-settled second [] log number = refl
logs-settled second (line ∷ lines) log number = refl

-- after the last log line the first table is due
pub logs-done : (second : Bool) (bytes : List ℕ) (log : List Entry) (number : ℕ) → verdict_from bytes (Logs second 0 log) number ≡ verdict_from bytes (Sections log []) number
logs-done second bytes log number = logs-settled second (lines_of bytes) log number

-- ---- row lines

pub row-step : (cols : List Column) (versions left next : ℕ) (log : List Entry) (tables : List (List Span)) (rows : List Span) (text : List ℕ) (r : Span) (number : ℕ) (rest : Due → Verdict)
    → left ≡ next + 1 → AreDue cols versions log tables → row_rule cols versions rows text ≡ Ok r
    → then_verdict (after_text (Rows left log tables rows) text) number rest ≡ rest (Rows next log tables (r ∷ rows))
unfolding after_text
row-step cols versions left next log tables rows text r number rest is due given =
    let by_one : left ≡ suc next = omega (arith, is) in
    let given' : row_rule (cols_of (slice_get (tables_in log) (length tables))) (versions_in log) rows text ≡ Ok r =
    subst (λ (n : ℕ). row_rule (cols_of (slice_get (tables_in log) (length tables))) n rows text ≡ Ok r) due.1
    (subst (λ (c : List Column). row_rule c versions rows text ≡ Ok r) due.0 given) in
    rw (by_one, given') refl

pub row-fails : (cols : List Column) (versions left next : ℕ) (log : List Entry) (tables : List (List Span)) (rows : List Span) (text : List ℕ) (s : LineStop) (number : ℕ) (rest : Due → Verdict) (whole : Verdict) (answer : DumpStop)
    → left ≡ next + 1 → AreDue cols versions log tables → answer ≡ stop_at s number
    → whole ≡ then_verdict (after_text (Rows left log tables rows) text) number rest → LineFails s (row_rule cols versions rows text) → Stops answer whole
unfolding after_text
row-fails cols versions left next log tables rows text (stop.Rule f) number rest whole answer is due told at fails =
    let by_one : left ≡ suc next = omega (arith, is) in
    let fails' : row_rule (cols_of (slice_get (tables_in log) (length tables))) (versions_in log) rows text ≡ Err f =
    subst (λ (n : ℕ). row_rule (cols_of (slice_get (tables_in log) (length tables))) n rows text ≡ Err f) due.1
    (subst (λ (c : List Column). row_rule c versions rows text ≡ Err f) due.0 fails) in
    let e : then_verdict (after_text (Rows left log tables rows) text) number rest ≡ Fails f number = rw (by_one, fails') refl in
    rw told (at ∙ e)
row-fails cols versions left next log tables rows text stop.NoMemory number rest whole answer is due told at fails = rw told tt

rows-settled : (lines : List DumpLine) (log : List Entry) (tables : List (List Span)) (rows : List Span) (number : ℕ)
    → verdict lines (Rows 0 log tables rows) number ≡ verdict lines (Sections log (reverse rows ∷ tables)) number
unfolding verdict after_text
rows-settled [] log tables rows number = refl
rows-settled (line ∷ lines) log tables rows number = refl

-- after its last row line a table is one of those before
pub rows-done : (bytes : List ℕ) (log : List Entry) (tables : List (List Span)) (rows : List Span) (number : ℕ)
    → verdict_from bytes (Rows 0 log tables rows) number ≡ verdict_from bytes (Sections log (reverse rows ∷ tables)) number
rows-done bytes log tables rows number = rows-settled (lines_of bytes) log tables rows number

-- ---- tables

pub table-step : (log : List Entry) (tables : List (List Span)) (table : Table) (text : List ℕ) (before n number : ℕ) (rest : Due → Verdict)
    → slice_get (tables_in log) (length tables) ≡ Some table → before ≡ spans_in tables → section_rule before table text ≡ Ok n
    → then_verdict (after_text (Sections log tables) text) number rest ≡ rest (Rows n log tables [])
unfolding after_text
table-step log tables table text before n number rest found same given =
    let given' : section_rule (spans_in tables) table text ≡ Ok n = subst (λ (k : ℕ). section_rule k table text ≡ Ok n) same given in
    rw (found, given') refl

pub table-fails : (log : List Entry) (tables : List (List Span)) (table : Table) (text : List ℕ) (before : ℕ) (s : LineStop) (number : ℕ) (rest : Due → Verdict) (whole : Verdict) (answer : DumpStop)
    → slice_get (tables_in log) (length tables) ≡ Some table → before ≡ spans_in tables → answer ≡ stop_at s number
    → whole ≡ then_verdict (after_text (Sections log tables) text) number rest → LineFails s (section_rule before table text) → Stops answer whole
unfolding after_text
table-fails log tables table text before (stop.Rule f) number rest whole answer found same told at fails =
    let fails' : section_rule (spans_in tables) table text ≡ Err f = subst (λ (k : ℕ). section_rule k table text ≡ Err f) same fails in
    let e : then_verdict (after_text (Sections log tables) text) number rest ≡ Fails f number = rw (found, fails') refl in
    rw told (at ∙ e)
table-fails log tables table text before stop.NoMemory number rest whole answer found same told at fails = rw told tt

-- ---- the first line and the last

cut-none : (o : Option Bool) (second : Bool) → (rule 2 o >>= (λ found. Err 3)) ≡ Ok (Count second) → ⊥
cut-none None second e = cc
cut-none (Some found) second e = cc

cut-no : (text : List ℕ) (second : Bool) → header_line (Cut text) ≡ Ok (Count second) → ⊥
cut-no text second e = elim (cases_Bool (is_utf8 text)) [
  | inl u ↦ let f = rw u at e in cut-none (header_of text) second f
  | inr u ↦ let f = rw u at e in cc
]

pub header-ok : (all bytes : List ℕ) (line : DumpLine) (second : Bool) (number : ℕ) → lines_of all ≡ line ∷ behind line bytes → header_line line ≡ Ok (Count second)
    → verdict_from all Header number ≡ verdict_from bytes (Count second) (number + 1)
unfolding verdict
header-ok all bytes (Whole text) second number is e = ap (λ (x : List DumpLine). verdict x Header number) is ∙ ap (λ (x : Result Due ℕ). then_verdict x number (λ next. verdict_from bytes next (number + 1))) e
header-ok all bytes (Cut text) second number is e = absurd (cut-no text second e)
header-ok all bytes Missing second number is e = absurd cc

pub header-bad : (all : List ℕ) (line : DumpLine) (lines : List DumpLine) (number f : ℕ) → lines_of all ≡ line ∷ lines → header_line line ≡ Err f → verdict_from all Header number ≡ Fails f number
unfolding verdict
header-bad all line lines number f is e = ap (λ (x : List DumpLine). verdict x Header number) is ∙ ap (λ (x : Result Due ℕ). then_verdict x number (λ next. verdict lines next (number + 1))) e

pub nothing-ok : (all : List ℕ) (line : DumpLine) (lines : List DumpLine) (number : ℕ) (dump : Dump) → lines_of all ≡ line ∷ lines → nothing_line line ≡ Ok tt → verdict_from all (Nothing dump) number ≡ Holds dump
unfolding verdict
nothing-ok all line lines number dump is e = ap (λ (x : List DumpLine). verdict x (Nothing dump) number) is ∙ ap (λ (x : Result (Unit {0}) ℕ). end_verdict x number dump) e

pub nothing-bad : (all : List ℕ) (line : DumpLine) (lines : List DumpLine) (number f : ℕ) (dump : Dump) → lines_of all ≡ line ∷ lines → nothing_line line ≡ Err f → verdict_from all (Nothing dump) number ≡ Fails f number
unfolding verdict
nothing-bad all line lines number f dump is e = ap (λ (x : List DumpLine). verdict x (Nothing dump) number) is ∙ ap (λ (x : Result (Unit {0}) ℕ). end_verdict x number dump) e

pub ruleset end_steps = (header-ok, header-bad, nothing-ok, nothing-bad)

-- ---- the number of log lines, and `end`

pub count-some : (second : Bool) (text : List ℕ) (n number : ℕ) (rest : Due → Verdict) → count_of text ≡ Some n → then_verdict (after_text (Count second) text) number rest ≡ rest (Logs second n [])
unfolding after_text
count-some second text n number rest e = rw e refl

pub count-none : (second : Bool) (text : List ℕ) (number : ℕ) (rest : Due → Verdict) → count_of text ≡ None → then_verdict (after_text (Count second) text) number rest ≡ Fails 4 number
unfolding after_text
count-none second text number rest e = rw e refl

pub end-yes : (log : List Entry) (tables : List (List Span)) (text : List ℕ) (number : ℕ) (rest : Due → Verdict) → length (tables_in log) ≤ length tables → bytes_eq text end_text ≡ true
    → then_verdict (after_text (Sections log tables) text) number rest ≡ rest (Nothing (record { entries = log; tables = reverse tables }))
unfolding after_text
end-yes log tables text number rest all e =
    let none : slice_get (tables_in log) (length tables) ≡ None = slice_get_past (tables_in log) (length tables) all in
    rw (none, e) refl

pub end-no : (log : List Entry) (tables : List (List Span)) (text : List ℕ) (number : ℕ) (rest : Due → Verdict) → length (tables_in log) ≤ length tables → bytes_eq text end_text ≡ false
    → then_verdict (after_text (Sections log tables) text) number rest ≡ Fails 14 number
unfolding after_text
end-no log tables text number rest all e =
    let none : slice_get (tables_in log) (length tables) ≡ None = slice_get_past (tables_in log) (length tables) all in
    rw (none, e) refl
