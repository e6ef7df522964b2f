-- Machinery: the tests of the code for equal row versions.
use Rattle.std.specs.Prelude.{ℕ, ◌==◌, Bool, true, false, ◌&&◌, List, Option, Some, None}
use Rattle.std.specs.Ordering.{is_eq}
use Rattle.gp_base.specs.Identities.{identity_cmp}
use Rattle.gp_base.specs.Order.{row_cmp, sorted_by}
use Rattle.gp_versions.specs.declared.span.Span.{Span}
use Rattle.gp_versions.specs.Spans.{Versions, span_cmp}

-- both end at one version, or neither has ended
abbrev pub same_end : Option ℕ → Option ℕ → Bool
same_end None None = true
same_end None (Some version) = false
same_end (Some version) None = false
same_end (Some version) (Some another) = version == another

abbrev pub same_span : Span → Span → Bool
same_span span other =
    (span.from == other.from) && (same_end span.to other.to && (is_eq (identity_cmp span.id other.id) && is_eq (row_cmp span.row other.row)))

-- of spans that were looked up
abbrev pub same_found : Option Span → Option Span → Bool
same_found None None = false
same_found None (Some other) = false
same_found (Some span) None = false
same_found (Some span) (Some other) = same_span span other

-- the row versions of a table in the order of a dump
abbrev pub in_order : Versions → List Span
in_order table = sorted_by span_cmp table.spans
