-- Part of the statement: the rules of a dump, line by line, when a file is a dump, and the first rule that fails where it is none. Each rule has a number;
-- on one line the least number counts.
use Rattle.std.specs.Prelude.{◌≡◌, ◌≢◌, ℕ, zero, suc, ◌+◌, ◌≤◌, ◌<◌, Bool, true, false, List, [], ◌∷◌, length, reverse, Some, None, Err, slice_get}
use Rattle.std.specs.Str.{is_utf8}
use Rattle.gp_base.specs.declared.cell.Cell.{Cell}
use Rattle.gp_base.specs.declared.table.Table.{Table}
use Rattle.gp_grammar.specs.declared.limits.TheConstants.{MAX_SESSION}
use Rattle.gp_versions.specs.declared.span.Span.{Span}
use Rattle.gp_base.specs.declared.limit.TheConstants.{MAX_SPANS}
use Rattle.gp_machine.specs.Entries.{Entry, versions_in}
use Rattle.gp_log.specs.declared.limit.TheConstants.{MAX_ENTRIES, MAX_LINE}
use Rattle.gp_log.specs.Discipline.{Flaw, Disorder, IsNext, Said, Unchecked, last_line, next_entry, said_by}
use Rattle.gp_log.specs.LogFacts.{tables_in}
use Rattle.gp_log.specs.Parameters.{parameters}
use Rattle.gp_dumpline.specs.Rows.{IsRowLine}
use Rattle.gp_dumpline.specs.Said.{IsSaid, is_said_in}
use Rattle.gp_dumpline.specs.Texts.{count_text, end_text, entry_text, header, log_line_text, said_text, section_text, span_text}
use Rattle.gp_dump.specs.Dumps.{Dump, IsRow, fits_columns, spans_in}
use Rattle.gp_dump.specs.Lines.{DumpLine, Whole, Cut, Missing, lines_of}

-- ---- what is due next, given the lines before

pub data Due : Type 0 where
  -- the first line, and the number of log lines
  Header : Due
  Count : Bool → Due
  -- this many log lines, after this log; in the second format they may say BEGIN READ COMMITTED
  Logs : Bool → ℕ → List Entry → Due
  -- the next table or the end, after these tables, the last one first
  Sections : List Entry → List (List Span) → Due
  -- this many row lines of a table, after the tables before it and these spans, the last one first
  Rows : ℕ → List Entry → List (List Span) → List Span → Due
  -- no line: the dump has ended
  Nothing : Dump → Due

-- all lines of the log, or of a table, are there: the next table is due, or the end of the dump, after these tables, the last one first
pub data IsBetween : Due → List Entry → List (List Span) → Type 0 where
  logged : (second : Bool) (log : List Entry) → IsBetween (Logs second zero log) log []
  between : (log : List Entry) (tables : List (List Span)) → IsBetween (Sections log tables) log tables
  filled : (log : List Entry) (tables : List (List Span)) (rows : List Span) → IsBetween (Rows zero log tables rows) log (reverse rows ∷ tables)

-- the table that is due after these; none is where they are all
abbrev pub IsNextTable : List Entry → List (List Span) → Table → Type 0
IsNextTable log tables table = slice_get (tables_in log) (length tables) ≡ Some table

-- ---- lines that keep the rules

-- what a line leads to: this is due, the line has this text, and then this is due
pub data Leads : Due → List ℕ → Due → Type 0 where
  names_format : (second : Bool) (text : List ℕ) → text ≡ header second → Leads Header text (Count second)
  counts : (second : Bool) (n : ℕ) (text : List ℕ) → n ≤ MAX_ENTRIES → text ≡ count_text n → Leads (Count second) text (Logs second n [])
  logs : (second : Bool) (left : ℕ) (log : List Entry) (entry : Entry) (text : List ℕ) → IsNext parameters log entry → IsSaid (said_by entry) → is_said_in second (said_by entry) ≡ true
      → text ≡ entry_text entry → Leads (Logs second (suc left) log) text (Logs second left (entry ∷ log))
  begins_table : (due : Due) (log : List Entry) (tables : List (List Span)) (table : Table) (rows : ℕ) (text : List ℕ) → IsBetween due log tables → IsNextTable log tables table
      → spans_in tables + rows ≤ MAX_SPANS → text ≡ section_text table.name rows → Leads due text (Rows rows log tables [])
  adds_row : (left : ℕ) (log : List Entry) (tables : List (List Span)) (rows : List Span) (table : Table) (span : Span) (text : List ℕ) → IsNextTable log tables table
      → IsRow table.cols (versions_in log) rows span → text ≡ span_text span → Leads (Rows (suc left) log tables rows) text (Rows left log tables (span ∷ rows))
  ends : (due : Due) (log : List Entry) (tables : List (List Span)) (text : List ℕ) → IsBetween due log tables → slice_get (tables_in log) (length tables) ≡ None → text ≡ end_text
      → Leads due text (Nothing (record { entries = log; tables = reverse tables }))

-- lines that all keep the rules, where this is due: they end with this dump
pub data KeepRules : List DumpLine → Due → Dump → Type 0 where
  ended : (dump : Dump) → KeepRules (Missing ∷ []) (Nothing dump) dump
  followed : (text : List ℕ) (lines : List DumpLine) (due next : Due) (dump : Dump) → Leads due text next → KeepRules lines next dump → KeepRules (Whole text ∷ lines) due dump

-- the bytes of a file are a dump that keeps the rules
abbrev pub WellFormed : List ℕ → Dump → Type 0
WellFormed bytes dump = KeepRules (lines_of bytes) Header dump

-- ---- lines that break a rule

-- a log line of this number and this session, which says this
pub record IsLogLine (text : List ℕ) (line session : ℕ) (said : List ℕ) : Type 0 where
  pub is : text ≡ log_line_text line session said
  pub lines : (1 ≤ line) × (line ≤ MAX_LINE)
  pub sessions : (1 ≤ session) × (session ≤ MAX_SESSION)

-- rule 8 is on sessions and counts, rule 9 on names and types
abbrev pub flaw_rule : Flaw → ℕ
flaw_rule Disorder = 8
flaw_rule Unchecked = 9

-- the least rule that a line breaks: this is due, and the line has this text
pub data Breaks : Due → List ℕ → ℕ → Type 0 where
  no_format : (text : List ℕ) → ((second : Bool) → text ≢ header second) → Breaks Header text 2
  no_count : (second : Bool) (text : List ℕ) → ((n : ℕ) → n ≤ MAX_ENTRIES → text ≢ count_text n) → Breaks (Count second) text 4
  no_log_line : (second : Bool) (left : ℕ) (log : List Entry) (text : List ℕ) → ((line session : ℕ) (said : List ℕ) → ¬ IsLogLine text line session said) → Breaks (Logs second (suc left) log) text 5
  no_later_line : (second : Bool) (left : ℕ) (log : List Entry) (text : List ℕ) (line session : ℕ) (said : List ℕ) → IsLogLine text line session said → line ≤ last_line log
      → Breaks (Logs second (suc left) log) text 6
  -- rule 7 is also on what the format has
  says_nothing : (second : Bool) (left : ℕ) (log : List Entry) (text : List ℕ) (line session : ℕ) (said : List ℕ) → IsLogLine text line session said → last_line log < line
      → ((x : Said) → IsSaid x → is_said_in second x ≡ true → said ≢ said_text x) → Breaks (Logs second (suc left) log) text 7
  is_flawed : (second : Bool) (left : ℕ) (log : List Entry) (text : List ℕ) (line session : ℕ) (said : Said) (flaw : Flaw) → IsLogLine text line session (said_text said) → last_line log < line
      → IsSaid said → is_said_in second said ≡ true → next_entry parameters log line session said ≡ Err flaw → Breaks (Logs second (suc left) log) text (flaw_rule flaw)
  -- all tables together have few enough rows
  no_table : (due : Due) (log : List Entry) (tables : List (List Span)) (table : Table) (text : List ℕ) → IsBetween due log tables → IsNextTable log tables table
      → ((rows : ℕ) → spans_in tables + rows ≤ MAX_SPANS → text ≢ section_text table.name rows) → Breaks due text 10
  no_row : (left : ℕ) (log : List Entry) (tables : List (List Span)) (rows : List Span) (text : List ℕ) → ((cells : List Cell) → ¬ IsRowLine text cells)
      → Breaks (Rows (suc left) log tables rows) text 11
  misfits : (left : ℕ) (log : List Entry) (tables : List (List Span)) (rows : List Span) (table : Table) (text : List ℕ) (cells : List Cell) → IsNextTable log tables table
      → IsRowLine text cells → fits_columns table.cols cells ≡ false → Breaks (Rows (suc left) log tables rows) text 12
  is_misplaced : (left : ℕ) (log : List Entry) (tables : List (List Span)) (rows : List Span) (table : Table) (text : List ℕ) (cells : List Cell) → IsNextTable log tables table
      → IsRowLine text cells → fits_columns table.cols cells ≡ true → ((span : Span) → IsRow table.cols (versions_in log) rows span → text ≢ span_text span)
      → Breaks (Rows (suc left) log tables rows) text 13
  no_end : (due : Due) (log : List Entry) (tables : List (List Span)) (text : List ℕ) → IsBetween due log tables → slice_get (tables_in log) (length tables) ≡ None → text ≢ end_text → Breaks due text 14
  goes_on : (dump : Dump) (text : List ℕ) → Breaks (Nothing dump) text 14

-- A line that breaks a rule, with the number of the rule. Rule 1 is that it is UTF-8. Rule 3 is that a line feed ends it; it comes before all but rules 1 and 2.
pub data LineBreaks : Due → DumpLine → ℕ → Type 0 where
  no_text : (due : Due) (text : List ℕ) → is_utf8 text ≡ false → LineBreaks due (Whole text) 1
  no_cut_text : (due : Due) (text : List ℕ) → is_utf8 text ≡ false → LineBreaks due (Cut text) 1
  breaks : (due : Due) (text : List ℕ) (f : ℕ) → is_utf8 text ≡ true → Breaks due text f → LineBreaks due (Whole text) f
  unnamed : (text : List ℕ) → is_utf8 text ≡ true → Breaks Header text 2 → LineBreaks Header (Cut text) 2
  unended : (due : Due) (text : List ℕ) → is_utf8 text ≡ true → (due ≡ Header → (second : Bool) × (text ≡ header second)) → LineBreaks due (Cut text) 3
  missing : (due : Due) → ((dump : Dump) → due ≢ Nothing dump) → LineBreaks due Missing 3

-- ---- the first fault

-- the first fault in lines, of which the first has this number, where this is due: the number of the rule, and the number of the line
pub data FaultIn : List DumpLine → Due → ℕ → ℕ → ℕ → Type 0 where
  here : (line : DumpLine) (lines : List DumpLine) (due : Due) (number f : ℕ) → LineBreaks due line f → FaultIn (line ∷ lines) due number f number
  later : (text : List ℕ) (lines : List DumpLine) (due next : Due) (number f at : ℕ) → Leads due text next → FaultIn lines next (number + 1) f at → FaultIn (Whole text ∷ lines) due number f at

-- the first fault of a file
abbrev pub FirstFault : List ℕ → ℕ → ℕ → Type 0
FirstFault bytes f line = FaultIn (lines_of bytes) Header 1 f line
