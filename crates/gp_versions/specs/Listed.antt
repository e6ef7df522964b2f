-- Machinery: the spans of a table that hold its newest versions, found without those that ended. The places of the first spans are listed, but for
-- spans that ended at a version or before it; from that version on, the listed spans are those of the first spans that hold a version.
use Rattle.std.specs.Prelude.{◌≡◌, ℕ, ◌<◌, ◌≤◌, Bool, false, List, [], ◌∷◌, filter, length, nat_lt, slice_get, Option, Some, None, if◌then◌else◌}
use Rattle.std.specs.List.{AllByRecursion, filter_map, range_with_len}
use Rattle.gp_versions.specs.declared.current.Current.{Current}
use Rattle.gp_versions.specs.declared.span.Span.{Span}
use Rattle.gp_versions.specs.Commits.{is_open}
use Rattle.gp_versions.specs.Search.{among}
use Rattle.gp_versions.specs.Spans.{holds_at}

-- the spans at these places
abbrev pub listed : List Span → List ℕ → List Span
listed spans places = filter_map (slice_get spans) places

-- these places list the first spans, as many as are covered, for the versions from `floor` on
pub record IsListed (places : List ℕ) (covered floor : ℕ) (spans : List Span) : Type 0 where
  pub within : covered ≤ length spans
  pub low : AllByRecursion (λ place. place < covered) places
  pub same : (v : ℕ) → floor ≤ v → among (holds_at v) spans (range_with_len 0 covered) ≡ among (holds_at v) spans places

-- where the spans of a version are looked for: at these places, and from one on
pub record IsWhere (places : List ℕ) (from v : ℕ) (spans : List Span) : Type 0 where
  pub within : from ≤ length spans
  pub same : among (holds_at v) spans (range_with_len 0 from) ≡ among (holds_at v) spans places

abbrev pub IsCurrent : Current → List Span → Type 0
IsCurrent current spans = IsListed current.places.items current.covered current.floor spans

-- ---- how ended spans are dropped

abbrev pub greater : ℕ → ℕ → ℕ
greater version other = if nat_lt version other then other else version

abbrev pub later_of : ℕ → Option ℕ → ℕ
later_of floor None = floor
later_of floor (Some to) = greater floor to

-- the greater of a version and the end of a span, if there is one that has ended
abbrev pub end_or : ℕ → Option Span → ℕ
end_or floor None = floor
end_or floor (Some span) = later_of floor span.to

-- the greatest of a version and the ends of the spans at these places
abbrev pub newest_end : ℕ → List Span → List ℕ → ℕ
newest_end floor spans [] = floor
newest_end floor spans (place ∷ places) = newest_end (end_or floor (slice_get spans place)) spans places

abbrev pub is_some_open : Option Span → Bool
is_some_open None = false
is_some_open (Some span) = is_open span.to

-- those of the places where the spans are open
abbrev pub open_places : List Span → List ℕ → List ℕ
open_places spans places = filter (λ place. is_some_open (slice_get spans place)) places

-- ---- a walk

-- the span, if there is one that holds the version
abbrev pub held : ℕ → Option Span → Option Span
held v None = None
held v (Some span) = if holds_at v span then Some span else None
