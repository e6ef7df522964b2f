-- Machinery: what the lines of a dump are read as. Each form is the inverse of its text in Texts, as the law `forms_are_texts` says.
use Rattle.std.specs.List.{list_all}
use Rattle.std.specs.Prelude.{◌≡◌, ◌<◌, ◌≤◌, ℕ, Bool, true, false, ◌||◌, List, length, Option, Some, None, Result, Ok, Err, option_and_then, if◌then◌else◌, ◌==◌, codes}
use Rattle.std.specs.Option.{option_map}
use Rattle.std.specs.Str.{bytes_eq}
use Rattle.gp_base.specs.declared.cell.Cell.{Cell}
use Rattle.gp_base.specs.Identities.{Identity}
use Rattle.gp_grammar.specs.declared.limits.TheConstants.{MAX_SESSION}
use Rattle.gp_grammar.specs.Canonical.{command_text}
use Rattle.gp_grammar.specs.LineReading.{Fault}
use Rattle.gp_grammar.specs.Reading.{command_of}
use Rattle.gp_grammar.specs.Syntax.{Command}
use Rattle.gp_versions.specs.declared.span.Span.{Span}
use Rattle.gp_base.specs.declared.limit.TheConstants.{MAX_SPANS}
use Rattle.gp_log.specs.declared.limit.TheConstants.{MAX_LINE, MAX_ENTRIES}
use Rattle.gp_log.specs.Discipline.{Said, Does, Loses}
use Rattle.gp_dumpline.specs.Numbers.{number_up_to, version_of, beyond_versions, cut_at, behind_words}
use Rattle.gp_dumpline.specs.RowForms.{identity_of, cells_of}
use Rattle.gp_dumpline.specs.Rows.{IsReadable, is_readable_cell}
use Rattle.gp_dumpline.specs.Texts.{header}

-- ---- the first line

-- whether the format is the second one
abbrev pub header_of : List ℕ → Option Bool
header_of text = if bytes_eq text (header false) then Some false else (if bytes_eq text (header true) then Some true else None)

-- ---- the log

-- the number of log lines
abbrev pub count_of : List ℕ → Option ℕ
count_of text = option_and_then (number_up_to MAX_ENTRIES) (behind_words (codes "log ") text)

pub record LogLine : Type 0 where
  pub line : ℕ
  pub session : ℕ
  pub said : List ℕ

unfoldable pub log_line_of : List ℕ → Option LogLine
log_line_of text =
    option_and_then (λ (a : List ℕ × List ℕ).
    option_and_then (λ (b : List ℕ × List ℕ).
    option_and_then (λ (line : ℕ).
    option_and_then (λ (digits : List ℕ).
    option_and_then (λ (session : ℕ). if (line == 0) || (session == 0) then None else Some (record { line = line; session = session; said = b.1 }))
    (number_up_to MAX_SESSION digits)) (behind_words (codes "s") b.0)) (number_up_to MAX_LINE a.0)) (cut_at 32 a.1)) (cut_at 32 text)

-- a command that was read, if this is its canonical text
abbrev pub if_canonical : List ℕ → Result Command Fault → Option Said
if_canonical text (Err fault) = None
if_canonical text (Ok command) = if bytes_eq (command_text command) text then Some (Does command) else None

unfoldable pub said_of : List ℕ → Option Said
said_of text = if bytes_eq text (codes "LOST") then Some Loses else if_canonical text (command_of text)

-- ---- tables

-- the number of row lines of the table of this name
abbrev pub section_of : List ℕ → List ℕ → Option ℕ
section_of name text =
    option_and_then (λ (named : List ℕ).
    option_and_then (λ (spaced : List ℕ).
    option_and_then (number_up_to MAX_SPANS)
    (behind_words (codes " ") spaced)) (behind_words name named)) (behind_words (codes "table ") text)

-- ---- spans

-- the version at which a span ends, if it has ended
abbrev pub to_of : List ℕ → Option (Option ℕ)
to_of text = if bytes_eq text (codes "-") then Some None else option_map (λ (n : ℕ). Some n) (version_of text)

-- a row line, cut into its parts
pub record RowLine : Type 0 where
  pub id : List ℕ
  pub from : ℕ
  pub to : Option ℕ
  pub cells : List ℕ

unfoldable pub row_line_of : List ℕ → Option RowLine
row_line_of text =
    option_and_then (λ (a : List ℕ × List ℕ).
    option_and_then (λ (b : List ℕ × List ℕ).
    option_and_then (λ (c : List ℕ × List ℕ).
    option_and_then (λ (from : ℕ).
    option_and_then (λ (to : Option ℕ). Some (record { id = a.0; from = from; to = to; cells = c.1 }))
    (to_of c.0)) (version_of b.0)) (cut_at 32 b.1)) (cut_at 32 a.1)) (cut_at 32 text)

-- the span of these parts
abbrev pub span_in : RowLine → Option Span
span_in line =
    option_and_then (λ (id : Identity).
    option_map (λ (row : List Cell). record { id = id; from = line.from; to = line.to; row = row })
    (cells_of line.cells)) (identity_of line.id)

abbrev pub span_of : List ℕ → Option Span
span_of text = option_and_then span_in (row_line_of text)

-- ---- the spans that have a text of this form

abbrev pub IsVersion : Option ℕ → Type 0
IsVersion None = Unit {0}
IsVersion (Some version) = version < beyond_versions

pub record HasForm (span : Span) : Type 0 where
  pub identity : IsReadable span.id
  pub from : span.from < beyond_versions
  pub to : IsVersion span.to
  pub some : 1 ≤ length span.row
  pub cells : list_all is_readable_cell span.row ≡ true
