-- Machinery: a dump that keeps the rules, and its text, as a whole. `well_formed_dumps_are_read` ties it to the rules line by line.
use Rattle.std.specs.Prelude.{◌≡◌, ℕ, ◌≤◌, Bool, true, List, [], ◌∷◌, length, map}
use Rattle.gp_base.specs.declared.limit.TheConstants.{MAX_SPANS}
use Rattle.gp_base.specs.declared.table.Column.{Column}
use Rattle.gp_base.specs.declared.table.Table.{Table}
use Rattle.gp_base.specs.Order.{sorted_by}
use Rattle.gp_versions.specs.declared.span.Span.{Span}
use Rattle.gp_versions.specs.Spans.{span_cmp}
use Rattle.gp_machine.specs.Entries.{Entry, versions_in}
use Rattle.gp_log.specs.declared.limit.TheConstants.{MAX_ENTRIES}
use Rattle.gp_log.specs.Discipline.{said_by}
use Rattle.gp_log.specs.WholeLogs.{IsLog}
use Rattle.gp_log.specs.LogFacts.{tables_in}
use Rattle.gp_log.specs.Parameters.{parameters}
use Rattle.gp_dumpline.specs.Said.{IsSaid}
use Rattle.gp_dump.specs.Dumps.{Dump, IsRow, dump_text, has_read_committed, spans_in}

-- a log, and the spans of each table in the order of a dump
abbrev pub dump_with : List Entry → List (List Span) → Dump
dump_with entries tables = record { entries = entries; tables = map (sorted_by span_cmp) tables }

-- the spans of a table, in order, after the ones before
abbrev pub AreInPlace : List Column → ℕ → List Span → List Span → Type 0
AreInPlace cols versions before [] = Unit {0}
AreInPlace cols versions before (span ∷ spans) = IsRow cols versions before span × AreInPlace cols versions (span ∷ before) spans

-- one list of spans for each table
abbrev pub AreOfTables : List Table → ℕ → List (List Span) → Type 0
AreOfTables [] versions [] = Unit {0}
AreOfTables [] versions (spans ∷ tables) = ⊥
AreOfTables (table ∷ others) versions [] = ⊥
AreOfTables (table ∷ others) versions (spans ∷ tables) =
    AreInPlace table.cols versions [] spans × AreOfTables others versions tables

-- every command of the log can be read from its text
abbrev pub AreReadable : List Entry → Type 0
AreReadable [] = Unit {0}
AreReadable (entry ∷ older) = IsSaid (said_by entry) × AreReadable older

-- a dump that keeps the rules
pub record IsDump (dump : Dump) : Type 0 where
  pub few_entries : length dump.entries ≤ MAX_ENTRIES
  pub log : IsLog parameters dump.entries
  pub commands : AreReadable dump.entries
  pub few_spans : spans_in dump.tables ≤ MAX_SPANS
  pub spans : AreOfTables (tables_in dump.entries) (versions_in dump.entries) dump.tables

-- the bytes are the text of a dump that keeps the rules, in the second format at least where BEGIN READ COMMITTED is in the log
pub record IsTextOf (bytes : List ℕ) (dump : Dump) : Type 0 where
  pub second : Bool
  pub text : bytes ≡ dump_text second dump
  pub format : has_read_committed dump.entries ≡ true → second ≡ true
  pub rules : IsDump dump
