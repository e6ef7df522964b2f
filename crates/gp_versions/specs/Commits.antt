-- Machinery: what a commit does to the row versions of a table. It ends the open spans of the identities that it wrote, and begins a
-- span for each of its writes that has a row. No row version is changed or removed otherwise.
use Rattle.std.specs.Prelude.{◌≡◌, ℕ, ◌<◌, Bool, true, false, ◌&&◌, List, [], ◌∷◌, ◌++◌, map, filter, Option, Some, None, if◌then◌else◌, not}
use Rattle.std.specs.List.{list_any, AllByRecursion, filter_map}
use Rattle.std.specs.Option.{option_map}
use Rattle.gp_base.specs.Annotated.{Annotated, Annotations}
use Rattle.gp_base.specs.Identities.{Identity, same_identity}
use Rattle.gp_versions.specs.declared.span.Span.{Span}
use Rattle.gp_versions.specs.declared.span.Write.{Write}

-- ---- writes

-- whether an identity is among those of the writes
abbrev pub is_written : List Write → Identity → Bool
is_written writes id = list_any (λ (write : Write). same_identity write.id id) writes

-- no two writes are of one identity
abbrev pub AreDistinct : List Write → Type 0
AreDistinct [] = Unit {0}
AreDistinct (write ∷ writes) = (is_written writes write.id ≡ false) × AreDistinct writes

-- the rows that the writes leave, in order; a write without a row deletes
abbrev pub live_row : {M : Type 0} → Annotations M → Write → Option (Annotated M)
live_row domain write = option_map (λ cells. record { identity = write.id; cells = cells; mark = false; annotation = domain.one }) write.row

abbrev pub live_rows : {M : Type 0} → Annotations M → List Write → List (Annotated M)
live_rows domain writes = filter_map (live_row domain) writes

-- the rows whose identity is not written
abbrev pub unwritten_rows : {M : Type 0} → List Write → List (Annotated M) → List (Annotated M)
unwritten_rows writes rows = filter (λ row. not (is_written writes row.identity)) rows

-- ---- spans after a commit

abbrev pub IsEndBelow : ℕ → Option ℕ → Type 0
IsEndBelow version None = Unit {0}
IsEndBelow version (Some to) = to < version

-- the span begins below the version, and if it ends, ends below it
abbrev pub IsBelow : ℕ → Span → Type 0
IsBelow version span = (span.from < version) × IsEndBelow version span.to

abbrev pub AreBelow : ℕ → List Span → Type 0
AreBelow version spans = AllByRecursion (IsBelow version) spans

abbrev pub is_open : Option ℕ → Bool
is_open None = true
is_open (Some to) = false

-- an open span of a written identity ends at the version
abbrev pub ended : ℕ → List Write → Span → Span
ended version writes span = if is_open span.to && is_written writes span.id then record span { to = Some version } else span

-- the span that a write with a row begins
abbrev pub begun : ℕ → Write → Option Span
begun version write = option_map (λ row. record { id = write.id; from = version; to = None; row = row }) write.row

abbrev pub after_commit : ℕ → List Write → List Span → List Span
after_commit version writes spans = map (ended version writes) spans ++ filter_map (begun version) writes
