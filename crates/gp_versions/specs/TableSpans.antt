-- Machinery: what holds of the spans of a table, and the spans of other rows.
use Rattle.std.specs.Prelude.{◌≡◌, ◌⊎◌, ℕ, ◌<◌, ◌≤◌, true, false, List, [], ◌∷◌, Option, Some, None, IsSomeAnd, nat_le, nat_lt, if◌then◌else◌}
use Rattle.std.specs.List.{AllByRecursion}
use Rattle.gp_base.specs.Identities.{Identity, same_identity}
use Rattle.gp_versions.specs.declared.span.Span.{Span}

-- of two spans of one identity, the first has ended when the other begins
abbrev pub IsApart : Span → Span → Type 0
IsApart first later = same_identity first.id later.id ≡ true → IsSomeAnd first.to (λ to. to ≤ later.from)

-- spans of one identity never overlap
abbrev pub NoOverlap : List Span → Type 0
NoOverlap [] = Unit {0}
NoOverlap (span ∷ spans) = AllByRecursion (IsApart span) spans × NoOverlap spans

abbrev pub IsEndAbove : ℕ → Option ℕ → Type 0
IsEndAbove from None = Unit {0}
IsEndAbove from (Some to) = from < to

-- each span holds at least one version
abbrev pub AreWhole : List Span → Type 0
AreWhole spans = AllByRecursion (λ (span : Span). IsEndAbove span.from span.to) spans

-- no two spans are of one identity
abbrev pub AreOfDifferentRows : List Span → Type 0
AreOfDifferentRows [] = Unit {0}
AreOfDifferentRows (span ∷ spans) =
    AllByRecursion (λ (other : Span). same_identity span.id other.id ≡ false) spans × AreOfDifferentRows spans

abbrev pub later : ℕ → ℕ → Option ℕ
later v version = if nat_lt v version then Some version else None

abbrev pub later_end : ℕ → Option ℕ → Option ℕ
later_end v None = None
later_end v (Some to) = later v to

-- the lesser of two versions, where there are any
abbrev pub least : Option ℕ → Option ℕ → Option ℕ
least None other = other
least (Some version) None = Some version
least (Some version) (Some other) = if nat_le version other then Some version else Some other

-- the least version above v at which a span of the identity begins or ends
abbrev pub written_after : Identity → ℕ → List Span → Option ℕ
written_after id v [] = None
written_after id v (span ∷ spans) =
    if same_identity span.id id then least (least (later v span.from) (later_end v span.to)) (written_after id v spans)
    else written_after id v spans

-- a span of the identity begins or ends at the version
abbrev pub IsChanged : Identity → ℕ → List Span → Type 0
IsChanged id version [] = ⊥
IsChanged id version (span ∷ spans) =
    ((same_identity span.id id ≡ true) × ((span.from ≡ version) ⊎ (span.to ≡ Some version))) ⊎ IsChanged id version spans
