-- Machinery: how the places of spans are found.
use Rattle.std.specs.Prelude.{ℕ, Bool, false, List, filter, slice_get, Option, Some, None}
use Rattle.gp_versions.specs.declared.places.InColumn.{InColumn}
use Rattle.gp_versions.specs.declared.places.Sought.{Sought}
use Rattle.gp_versions.specs.declared.span.Span.{Span}
use Rattle.gp_versions.specs.Spans.{holds_at}
use Rattle.gp_versions.specs.Places.{holds_with}

-- whether there is a span, and this is true of it
abbrev pub is_where : (Span → Bool) → Option Span → Bool
is_where p None = false
is_where p (Some span) = p span

-- those of the places with a span of which this is true
abbrev pub among : (Span → Bool) → List Span → List ℕ → List ℕ
among p spans places = filter (λ place. is_where p (slice_get spans place)) places

-- whether the span holds the version, and has the cell if one is given
abbrev pub sought_at : ℕ → Option InColumn → Span → Bool
sought_at v None span = holds_at v span
sought_at v (Some own) span = holds_with v own.column own.cell.now span

abbrev pub is_sought : Sought → Span → Bool
is_sought sought span = sought_at sought.v sought.own span
