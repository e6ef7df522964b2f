-- Part of the statement: the rows that the commits of a history wrote, by its row versions: each with its cells before and after.
use Rattle.std.specs.Prelude.{ℕ, suc, ◌==◌, ◌&&◌, Bool, false, List, [], ◌∷◌, ◌++◌, Option, Some, None, slice_get, if◌then◌else◌}
use Rattle.std.specs.Option.{option_and_then, option_map_or}
use Rattle.gp_base.specs.declared.cell.Cell.{Cell}
use Rattle.gp_base.specs.Identities.{same_identity}
use Rattle.gp_algebra.specs.Effects.{Written}
use Rattle.gp_versions.specs.declared.span.Span.{Span}

-- a row that the commit of a version wrote, with its cells in the version before, and in this one
pub record RowChange : Type 0 where
  pub version : ℕ
  pub row : Written
  pub before : Option (List Cell)
  pub after : Option (List Cell)

-- ---- by the spans of a table, in the order of a dump: by identity, then by the version that they begin with

-- whether a span ends where the other one begins, of the same row
abbrev pub goes_on_in : Span → Span → Bool
goes_on_in span next = option_map_or (λ (to : ℕ). to == next.from) span.to false && same_identity span.id next.id

-- the cells before a span, by the span before it
abbrev pub cells_before : Option Span → Span → Option (List Cell)
cells_before last span = option_and_then (λ (other : Span). if goes_on_in other span then Some other.row else None) last

-- the commit that a span ends with deleted its row, unless the row goes on in the next one
abbrev pub deleted_changes : ℕ → Span → Option Span → List RowChange
deleted_changes table span next =
    if option_map_or (goes_on_in span) next false then []
    else option_map_or (λ (to : ℕ). record { version = to; row = record { table = table; identity = span.id }; before = Some span.row; after = None } ∷ []) span.to []

abbrev pub span_changes : ℕ → Option Span → Span → Option Span → List RowChange
span_changes table last span next =
    record { version = span.from; row = record { table = table; identity = span.id }; before = cells_before last span; after = Some span.row }
    ∷ deleted_changes table span next

abbrev pub spans_changes : ℕ → Option Span → List Span → List RowChange
spans_changes table last [] = []
spans_changes table last (span ∷ spans) = span_changes table last span (slice_get spans 0) ++ spans_changes table (Some span) spans

-- those of all tables, the first of which has this place
abbrev pub tables_changes : ℕ → List (List Span) → List RowChange
tables_changes table [] = []
tables_changes table (spans ∷ others) = spans_changes table None spans ++ tables_changes (suc table) others
