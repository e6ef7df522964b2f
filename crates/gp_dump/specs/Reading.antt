-- Machinery: what the parts of the reader give, by the rules of a line and by the verdict.
use Rattle.std.specs.Prelude.{◌≡◌, ◌+◌, ℕ, Bool, true, false, List, [], reverse, length, Option, Some, None, Result, Ok, Err, slice_get}
use Rattle.gp_base.specs.declared.table.Column.{Column}
use Rattle.gp_check.specs.Valid.{table_is_valid}
use Rattle.gp_versions.specs.declared.span.Span.{Span}
use Rattle.gp_versions.specs.Spans.{Versions}
use Rattle.gp_machine.specs.Entries as m
use Rattle.gp_machine.specs.Entries.{versions_in}
use Rattle.gp_log.specs.declared.entry.What.{What}
use Rattle.gp_log.specs.declared.entry.What.TheVariants as what
use Rattle.gp_log.specs.Discipline.{Flaw, Disorder, Unchecked}
use Rattle.gp_log.specs.LogFacts.{tables_in}
use Rattle.gp_log.specs.Logs.{what_view}
use Rattle.gp_dump.specs.declared.error.DumpStop.{DumpStop}
use Rattle.gp_dump.specs.declared.error.DumpStop.TheVariants as dump
use Rattle.gp_dump.specs.declared.error.EntryStop.{EntryStop}
use Rattle.gp_dump.specs.declared.error.EntryStop.TheVariants as entry
use Rattle.gp_dump.specs.declared.error.LineStop.{LineStop}
use Rattle.gp_dump.specs.declared.error.LineStop.TheVariants as line
use Rattle.gp_dump.specs.declared.lines.DumpLine as code
use Rattle.gp_dump.specs.declared.lines.DumpLine.TheVariants as l
use Rattle.gp_dump.specs.Lines.{DumpLine, Whole, Cut, Missing, lines_of}
use Rattle.gp_dump.specs.Rules.{Due, Header, Count, Logs, Sections, Rows, Nothing}
use Rattle.gp_dump.specs.Verdicts.{Verdict, Fails, cols_of, verdict}
use Rattle.gp_dump.specs.Views.{tables_view}

-- ---- lines

abbrev pub line_view : code.DumpLine → DumpLine
line_view (l.Whole text) = Whole text.now
line_view (l.Cut text) = Cut text.now
line_view l.Missing = Missing

-- the lines behind a line
abbrev pub behind : DumpLine → List ℕ → List DumpLine
behind (Whole text) bytes = lines_of bytes
behind (Cut text) bytes = []
behind Missing bytes = []

-- the bytes of a line, and of its end
abbrev pub taken : DumpLine → ℕ
taken (Whole text) = length text + 1
taken (Cut text) = length text
taken Missing = 0

-- ---- rules

-- the next entry, or its flaw; running out of memory says nothing
abbrev pub GivesEntry : {X : Type 0} → (X → m.Entry) → Result X EntryStop → Result m.Entry Flaw → Type 0
GivesEntry view (Ok x) given = given ≡ Ok (view x)
GivesEntry view (Err entry.Disorder) given = given ≡ Err Disorder
GivesEntry view (Err entry.Unchecked) given = given ≡ Err Unchecked
GivesEntry view (Err entry.NoMemory) given = Unit {0}

-- the end of a transaction, where there is one
abbrev pub ended : ℕ → ℕ → Option ℕ → What → Result m.Entry Flaw
ended line session None end = Err Disorder
ended line session (Some t) end = Ok (what_view line session t end)

-- the table that an entry creates is valid
abbrev pub CreatesValid : What → Type 0
CreatesValid (what.Create table) = table_is_valid table ≡ true
CreatesValid _ = Unit {0}

-- the rule of an entry that cannot be next
abbrev pub line_stop : EntryStop → LineStop
line_stop entry.Disorder = line.Rule 8
line_stop entry.Unchecked = line.Rule 9
line_stop entry.NoMemory = line.NoMemory

-- the rule that fails; running out of memory says nothing
abbrev pub LineFails : {Y : Type 0} → LineStop → Result Y ℕ → Type 0
LineFails (line.Rule f) given = given ≡ Err f
LineFails line.NoMemory given = Unit {0}

-- what the rules of a line give, or the rule that fails
abbrev pub GivesLine : {X Y : Type 0} → (X → Y) → Result X LineStop → Result Y ℕ → Type 0
GivesLine view (Ok x) given = given ≡ Ok (view x)
GivesLine view (Err stop) given = LineFails stop given

-- ---- the verdict

-- the stop of a line of this number
abbrev pub stop_at : LineStop → ℕ → DumpStop
stop_at (line.Rule f) number = dump.Fault f number
stop_at line.NoMemory number = dump.NoMemory

-- a fault is the verdict; running out of memory says nothing
abbrev pub Stops : DumpStop → Verdict → Type 0
Stops (dump.Fault f line) whole = whole ≡ Fails f line
Stops dump.NoMemory whole = Unit {0}

-- the verdict is the one on what is left, or the fault
abbrev pub Continues : {X : Type 0} → Result X DumpStop → (X → Verdict) → Verdict → Type 0
Continues (Ok x) rest whole = whole ≡ rest x
Continues (Err stop) rest whole = Stops stop whole

-- whether a line with a text is due, by rules that come behind those of every line
abbrev pub takes_text : Due → Bool
takes_text Header = false
takes_text (Count second) = true
takes_text (Logs second left log) = true
takes_text (Sections log tables) = true
takes_text (Rows left log tables rows) = true
takes_text (Nothing dump) = false

-- the verdict on the bytes that are left
abbrev pub verdict_from : List ℕ → Due → ℕ → Verdict
verdict_from bytes due number = verdict (lines_of bytes) due number

-- the columns of the table that is due, and the number of versions
abbrev pub AreDue : List Column → ℕ → List m.Entry → List (List Span) → Type 0
AreDue cols versions log tables = (cols ≡ cols_of (slice_get (tables_in log) (length tables))) × (versions ≡ versions_in log)

-- the spans of the tables so far, the last table first
abbrev pub tables_before : List Versions → List (List Span)
tables_before versions = reverse (tables_view versions)
