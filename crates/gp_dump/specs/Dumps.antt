-- Part of the statement: what a dump holds, its text, the dump of a history, and which rows it can have.
use Rattle.std.specs.Prelude.{◌≡◌, ℕ, zero, suc, nat_le, nat_lt, Bool, true, false, ◌&&◌, ◌||◌, List, [], ◌∷◌, ◌++◌, length, map, sum, reverse, Option}
use Rattle.std.specs.List.{flat_map, list_any, zip}
use Rattle.std.specs.Option.{option_map_or}
use Rattle.std.specs.Ordering.{is_lt}
use Rattle.gp_base.specs.declared.cell.Cell.{Cell}
use Rattle.gp_base.specs.declared.cell.Cell.TheVariants as cell
use Rattle.gp_base.specs.declared.table.Column.{Column}
use Rattle.gp_base.specs.declared.table.Kind.{Kind}
use Rattle.gp_base.specs.declared.table.Kind.TheVariants as kind
use Rattle.gp_base.specs.declared.table.Table.{Table}
use Rattle.gp_base.specs.Cells.{is_user_text, fits_number}
use Rattle.gp_base.specs.Identities.{identity_cmp, same_identity}
use Rattle.gp_base.specs.Numbered.{newline}
use Rattle.gp_base.specs.Order.{sorted_by}
use Rattle.gp_versions.specs.declared.span.Span.{Span}
use Rattle.gp_versions.specs.Spans.{span_cmp}
use Rattle.gp_machine.specs.Entries.{Entry}
use Rattle.gp_machine.specs.HistorySpans.{state_spans}
use Rattle.gp_machine.specs.State.{State}
use Rattle.gp_log.specs.Discipline.{said_by}
use Rattle.gp_log.specs.LogFacts.{tables_in}
use Rattle.gp_dumpline.specs.Said.{begins_read_committed}
use Rattle.gp_dumpline.specs.Rows.{IsReadable}
use Rattle.gp_dumpline.specs.Texts.{header, count_text, entry_text, section_text, span_text, end_text}

pub record Dump : Type 0 where
  -- the log, the newest entry first
  pub entries : List Entry
  -- the spans of each table, in the order of their lines
  pub tables : List (List Span)

-- ---- its text

-- a line, with the line feed that ends it
abbrev pub with_newline : List ℕ → List ℕ
with_newline text = text ++ newline

-- the sections of tables, each of its name, then its row lines
abbrev pub sections_texts : List Table → List (List Span) → List (List ℕ)
sections_texts tables lists = flat_map (λ (pair : Table × List Span). section_text pair.0.name (length pair.1) ∷ map span_text pair.1) (zip tables lists)

-- the lines, in the first format or in the second: the log, oldest entry first, then each table in order of creation
abbrev pub texts_of : Bool → Dump → List (List ℕ)
texts_of second dump =
    header second ∷ count_text (length dump.entries) ∷ (map entry_text (reverse dump.entries) ++ (sections_texts (tables_in dump.entries) dump.tables ++ end_text ∷ []))

abbrev pub dump_text : Bool → Dump → List ℕ
dump_text second dump = flat_map with_newline (texts_of second dump)

-- BEGIN READ COMMITTED is in the log, and so is only in texts of the second format
abbrev pub has_read_committed : List Entry → Bool
has_read_committed = list_any (λ (entry : Entry). begins_read_committed (said_by entry))

-- the text that is written, in the second format only if it has to be
abbrev pub written_text : Dump → List ℕ
written_text dump = dump_text (has_read_committed dump.entries) dump

-- ---- the dump of a history

-- the spans of the first tables, this many
abbrev pub spans_in_order : {M : Type 0} → State M → ℕ → List (List Span)
spans_in_order state zero = []
spans_in_order state (suc table) = spans_in_order state table ++ state_spans state table ∷ []

-- its log, and the spans of each table in the order of a dump: by identity, then by the version that they begin with
abbrev pub dump_of : {M : Type 0} → State M → Dump
dump_of state = record { entries = state.entries; tables = map (sorted_by span_cmp) (spans_in_order state (length state.catalogue)) }

-- ---- the rows of a table

-- a cell that a column can hold
abbrev pub is_of_kind : Kind → Cell → Bool
is_of_kind kind cell.Null = true
is_of_kind kind.Int (cell.Int number) = fits_number number
is_of_kind kind.Text (cell.Text text) = is_user_text text
is_of_kind kind cell = false

-- a row that the columns of a table can hold
abbrev pub fits_columns : List Column → List Cell → Bool
fits_columns [] [] = true
fits_columns (col ∷ cols) (cell ∷ cells) = is_of_kind col.kind cell && fits_columns cols cells
fits_columns _ _ = false

-- a span that has ended, at this version or before
abbrev pub has_ended_by : Option ℕ → ℕ → Bool
has_ended_by end version = option_map_or (λ (to : ℕ). nat_le to version) end false

-- a span is empty nowhere, and ends at a version that there is
abbrev pub ends_within : ℕ → ℕ → Option ℕ → Bool
ends_within versions from end = option_map_or (λ (to : ℕ). nat_lt from to && nat_le to versions) end true

-- the span after another one: of a greater identity, or a later span of the same row
abbrev pub is_after : Span → Span → Bool
is_after last span =
    is_lt (identity_cmp last.id span.id)
    || (same_identity last.id span.id && (nat_lt last.from span.from && has_ended_by last.to span.from))

-- the first span of a table has none before it; given the spans before, the last one first
abbrev pub is_next : List Span → Span → Bool
is_next [] span = true
is_next (last ∷ earlier) span = is_after last span

-- a span in its place, given the number of versions and the spans before, the last one first
abbrev pub is_in_place : ℕ → List Span → Span → Bool
is_in_place versions before span =
    nat_le 1 span.from && (nat_le span.from versions && (ends_within versions span.from span.to && is_next before span))

-- a row line that keeps the rules
pub record IsRow (cols : List Column) (versions : ℕ) (before : List Span) (span : Span) : Type 0 where
  pub identity : IsReadable span.id
  pub cells : fits_columns cols span.row ≡ true
  pub place : is_in_place versions before span ≡ true

abbrev pub spans_in : List (List Span) → ℕ
spans_in tables = sum (map (λ (spans : List Span). length spans) tables)
