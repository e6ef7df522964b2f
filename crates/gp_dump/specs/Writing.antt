-- Machinery: the lines that the writer appends one after another.
use Rattle.std.specs.Prelude.{ℕ, List, [], ◌∷◌, Option, Some, None, length, map, slice_get}
use Rattle.gp_base.specs.declared.table.Table.{Table}
use Rattle.gp_base.specs.Order.{sorted_by}
use Rattle.gp_versions.specs.declared.span.Span.{Span}
use Rattle.gp_versions.specs.Spans.{Versions, span_cmp}
use Rattle.gp_log.specs.declared.entry.Entry.{Entry}
use Rattle.gp_log.specs.Logs.{entry_view}
use Rattle.gp_dumpline.specs.Texts.{entry_text, section_text, span_text}
use Rattle.gp_dump.specs.Dumps.{with_newline}
use Rattle.gp_dump.specs.Views.{tables_view}

-- the section of a table: its name, then its row lines
abbrev pub section_texts : Table → List Span → List (List ℕ)
section_texts table spans = section_text table.name (length spans) ∷ map span_text spans

-- the log line of an entry of the code
abbrev pub log_line_text : Entry → List ℕ
log_line_text entry = with_newline (entry_text (entry_view entry))

abbrev pub row_line_text : Span → List ℕ
row_line_text span = with_newline (span_text span)

-- the row line of a span that was looked up
abbrev pub found_text : Option Span → List ℕ
found_text None = []
found_text (Some span) = row_line_text span

-- the row line at a place
abbrev pub place_text : List Span → ℕ → List ℕ
place_text spans place = found_text (slice_get spans place)

-- the spans of each table in the order of their lines
abbrev pub ordered : List Versions → List (List Span)
ordered versions = map (sorted_by span_cmp) (tables_view versions)
