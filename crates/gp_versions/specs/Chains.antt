-- Machinery: the entered spans of a table by their keys. Spans with equal keys are a chain, and each entered span knows the one before it in its
-- chain. A walk along the chain of an identity meets each entered span of the identity, whatever the keys are.
use Rattle.std.specs.Prelude.{◌≡◌, ℕ, zero, suc, ◌<◌, ◌≤◌, Bool, ◌&&◌, List, [], ◌∷◌, length, map, take, slice_get, nat_le, Option, Some, None, if◌then◌else◌, IfSome}
use Rattle.std.specs.List.{AllByRecursion}
use Rattle.indexmap.specs.IndexMap.{IndexMap, get}
use Rattle.gp_base.specs.Identities.{Identity, same_identity}
use Rattle.gp_versions.specs.contracts.key.KeyPartialEq.TheImpl as key_eq
use Rattle.gp_versions.specs.declared.chains.Chains.{Chains}
use Rattle.gp_versions.specs.declared.columns.ColumnIndex.{ColumnIndex}
use Rattle.gp_versions.specs.declared.key.By.TheVariants as variant
use Rattle.gp_versions.specs.declared.key.Key.{Key}
use Rattle.gp_versions.specs.declared.span.Span.{Span}
use Rattle.gp_versions.specs.declared.span.Write.{Write}
use Rattle.gp_versions.specs.Commits.{ended, is_open}
use Rattle.gp_versions.specs.Keys.{key_of, keys_by}
use Rattle.gp_versions.specs.TableSpans.{later, later_end, least, written_after}

-- what == answers at keys
abbrev pub same_keys : Key → Key → Bool
same_keys = (key_eq.ghosts).eq

abbrev pub keys_of : List Span → List Key
keys_of spans = map (λ (span : Span). key_of span.id) spans

-- how many places there are up to this one, if there is one
abbrev pub up_to : Option ℕ → ℕ
up_to None = 0
up_to (Some place) = suc place

abbrev pub ids_of : List Span → List Identity
ids_of spans = map (λ (span : Span). span.id) spans

-- the key, or the identity, is at the place, if there is one, and not behind it and below `to`
pub record IsLast {K : Type 0} (keys : List K) (key : K) (to : ℕ) (place : Option ℕ) : Type 0 where
  pub at : IfSome place (λ p. (p < to) × (slice_get keys p ≡ Some key))
  pub others : (q : ℕ) → up_to place ≤ q → q < to → slice_get keys q ≡ Some key → ⊥

-- the first places are entered: `newest` has the last one of each key, and `befores`, for each of them, the one before it with its key
pub record HasChains {S : Type 0} (newest : IndexMap Key ℕ S) (befores : List (Option ℕ)) (keys : List Key) : Type 0 where
  pub within : length befores ≤ length keys
  pub last : (key : Key) → IsLast keys key (length befores) (get same_keys newest key)
  pub linked : (p : ℕ) (key : Key) (place : Option ℕ) → slice_get befores p ≡ Some place → slice_get keys p ≡ Some key → IsLast keys key p place

-- how many spans are entered
abbrev pub entered : Chains → ℕ
entered chains = length chains.befores.items

-- the chains are right for the first of these keys, as many as are entered
abbrev pub AreChained : Chains → List Key → Type 0
AreChained chains keys = HasChains chains.newest chains.befores.items keys

-- the chains are right for the first spans, by their identities
abbrev pub IsChained : Chains → List Span → Type 0
IsChained chains spans = AreChained chains (keys_of spans)

-- those of each index are right by the cells of its column
abbrev pub IsIndex : List Span → ColumnIndex → Type 0
IsIndex spans index = AreChained index.chains (keys_by (variant.Column index.column) spans)

abbrev pub AreIndexes : List ColumnIndex → List Span → Type 0
AreIndexes indexes spans = AllByRecursion (IsIndex spans) indexes

-- ---- a walk

-- the least version above v at which the span begins or ends, if it is of the identity
abbrev pub change_after : Identity → ℕ → Span → Option ℕ
change_after id v span = if same_identity span.id id then least (later v span.from) (later_end v span.to) else None

-- the span is of the identity and begins at v or before it, so that the earlier ones of the identity end at v or before it
abbrev pub is_begun : Identity → ℕ → Span → Bool
is_begun id v span = nat_le span.from v && same_identity span.id id

-- a span with the key of the identity is at the place, if there is one
abbrev pub IsKeyAt : List Span → Identity → ℕ → Option ℕ → Type 0
IsKeyAt spans id to place = IfSome place (λ p. (p < to) × (slice_get (keys_of spans) p ≡ Some (key_of id)))

-- a span with the key of the identity is at the place, if there is one, and the identity is not behind it and below `to`
pub record HasNone (spans : List Span) (id : Identity) (to : ℕ) (place : Option ℕ) : Type 0 where
  pub at : IsKeyAt spans id to place
  pub others : (q : ℕ) → up_to place ≤ q → q < to → slice_get (ids_of spans) q ≡ Some id → ⊥

-- the later writes of the identity among the first `to` spans are those up to the place
pub record LeadsTo (spans : List Span) (id : Identity) (v to : ℕ) (place : Option ℕ) : Type 0 where
  pub at : IsKeyAt spans id to place
  pub after : written_after id v (take (up_to place) spans) ≡ written_after id v (take to spans)

-- ---- a commit

-- an open span ends at the version
abbrev pub closed : ℕ → Span → Span
closed version span = if is_open span.to then record span { to = Some version } else span

-- the first `to` spans after the ends that the writes make there, and the others as they are
abbrev pub ended_first : ℕ → ℕ → List Write → List Span → List Span
ended_first zero version writes spans = spans
ended_first (suc to) version writes [] = []
ended_first (suc to) version writes (span ∷ spans) = ended version writes span ∷ ended_first to version writes spans
