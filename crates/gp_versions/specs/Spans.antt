-- Part of the statement: the row versions of a table. A span is a row with the versions at which the table has it, from `from` up to, but not
-- including, `to`: a period of transaction time, which is closed at its start and open at its end as in SQL:2011 (ISO/IEC 9075-2) and Snodgrass,
-- Developing Time-Oriented Database Applications in SQL (1999). A span without an end holds its row until a later commit ends it.
use Rattle.std.specs.Prelude.{ℕ, Bool, true, false, ◌&&◌, List, map, filter, Option, Some, None, nat_le, nat_lt}
use Rattle.std.specs.Ordering.{nat_cmp, ordering_then}
use Rattle.std.specs.declared.cmp.Ordering.{Ordering}
use Rattle.gp_base.specs.Annotated.{Annotated, Annotations}
use Rattle.gp_base.specs.Identities.{identity_cmp}
use Rattle.gp_versions.specs.declared.span.Span.{Span}

-- what a table of versions is: its spans in the order in which they began, and the number of spans that it has room for
pub record Versions : Type 0 where
  pub spans : List Span
  pub spare : ℕ

-- ---- the rows of a version

abbrev pub is_before_end : ℕ → Option ℕ → Bool
is_before_end v None = true
is_before_end v (Some to) = nat_lt v to

-- whether the table has the row of the span at a version
abbrev pub holds_at : ℕ → Span → Bool
holds_at v span = nat_le span.from v && is_before_end v span.to

-- the spans that hold a version
abbrev pub spans_at : ℕ → List Span → List Span
spans_at v spans = filter (holds_at v) spans

-- the row of a span: no running transaction wrote it
abbrev pub row_of : {M : Type 0} → Annotations M → Span → Annotated M
row_of domain span = record { identity = span.id; cells = span.row; mark = false; annotation = domain.one }

-- the rows of a version, in the order in which their spans began
abbrev pub rows_at : {M : Type 0} → Annotations M → ℕ → List Span → List (Annotated M)
rows_at domain v spans = map (row_of domain) (spans_at v spans)

-- ---- the order of spans

-- by identity, then by the version at which they begin
abbrev pub span_cmp : Span → Span → Ordering
span_cmp span other = ordering_then (identity_cmp span.id other.id) (nat_cmp span.from other.from)
