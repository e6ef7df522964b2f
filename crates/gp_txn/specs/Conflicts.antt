-- Machinery: which row a commit is lost by. The first committer wins (Berenson and others, SIGMOD 1995): a commit is lost where a row that
-- the transaction updated or deleted was written by a commit later than the row's base. The span of a row with a slot holds the version that the
-- statement read, and ends at the first commit that wrote the row; a row that is carried over is looked up by its identity.
use Rattle.std.specs.Prelude.{◌≡◌, ◌⊎◌, ℕ, ◌<◌, false, List, [], ◌∷◌, ◌++◌, drop, Option, Some, None}
use Rattle.std.specs.List.{cons_option, filter_map, AllByRecursion}
use Rattle.std.specs.Option.{option_and_then, option_map}
use Rattle.std.specs.Ordering.{is_gt, nat_cmp, on, then_cmp}
use Rattle.std.specs.declared.cmp.Ordering.{Ordering}
use Rattle.gp_base.specs.Identities.{Identity, identity_cmp}
use Rattle.gp_algebra.specs.Effects.{Written}
use Rattle.gp_versions.specs.declared.span.Span.{Span}
use Rattle.gp_versions.specs.Spans.{Versions}
use Rattle.gp_versions.specs.TableSpans.{written_after}
use Rattle.gp_txn.specs.declared.carried.Carried.{Carried}
use Rattle.gp_txn.specs.declared.overlay.Slot.{Slot}
use Rattle.gp_txn.specs.declared.overlay.Slot.TheVariants.{Same, Put, Dropped}
use Rattle.gp_txn.specs.declared.overlay.TableWrites.{TableWrites}
use Rattle.gp_txn.specs.declared.conflict.Conflict.{Conflict}
use Rattle.gp_txn.specs.declared.conflict.Late.{Late}
use Rattle.gp_txn.specs.Overlay.{Overlay, head_slot, slotted_spans}
use Rattle.gp_txn.specs.Transactions.{base_at, overlay_at, table_at}

-- ---- one table

-- the version at which the span of a row ended, if the transaction wrote the row
abbrev pub late_version : Slot → Span → Option ℕ
late_version Same span = None
late_version (Put cells) span = span.to
late_version Dropped span = span.to

abbrev pub late_of : Slot → Span → Option Late
late_of slot span = option_map (λ to. record { id = span.id; version = to }) (late_version slot span)

-- of the rows with these spans, those that the transaction wrote and a later commit too
abbrev pub slot_lates : List Slot → List Span → List Late
slot_lates slots [] = []
slot_lates slots (span ∷ spans) = cons_option (late_of (head_slot slots) span) (slot_lates (drop 1 slots) spans)

-- a row that is carried over, if a commit above its base wrote it
abbrev pub carried_late : List Span → Carried → Option Late
carried_late spans carried = option_map (λ version. record { id = carried.id; version = version }) (written_after carried.id carried.base spans)

-- the rows that the transaction wrote and a later commit too
abbrev pub lates : Overlay → List Span → List Late
lates writes spans = slot_lates writes.slots (slotted_spans writes.carried writes.version spans) ++ filter_map (carried_late spans) writes.carried

abbrev pub IsAmong : Late → List Late → Type 0
IsAmong late [] = ⊥
IsAmong late (other ∷ others) = (other ≡ late) ⊎ IsAmong late others

-- no identity is before this one
abbrev pub IsBeforeAll : Late → List Late → Type 0
IsBeforeAll late others = AllByRecursion (λ (other : Late). is_gt (identity_cmp late.id other.id) ≡ false) others

-- the one with the least identity, or None if there are none
abbrev pub IsLeast : List Late → Option Late → Type 0
IsLeast others None = others ≡ []
IsLeast others (Some late) = IsAmong late others × IsBeforeAll late others

-- ---- all tables

-- those of the table at a place
abbrev pub lates_at : List TableWrites → List Versions → ℕ → List Late
lates_at tables versions place = lates (overlay_at place tables versions) (table_at place versions).spans

-- the least row of the first table that has any, given the number of tables
abbrev pub IsFirstConflict : ℕ → (ℕ → List Late) → Option Conflict → Type 0
IsFirstConflict count lates None = (place : ℕ) → place < count → lates place ≡ []
IsFirstConflict count lates (Some conflict) =
    ((earlier : ℕ) → earlier < conflict.place → lates earlier ≡ []) × IsLeast (lates conflict.place) (Some conflict.late)

-- ---- in the words of the literature

-- rows by table, and then by identity
abbrev pub written_cmp : Written → Written → Ordering
written_cmp = then_cmp (on (λ (row : Written). row.table) nat_cmp) (on (λ (row : Written). row.identity) identity_cmp)

-- the first version above the base of a row that the transaction wrote at which a commit wrote it: a span of it begins or ends there
abbrev pub next_write : List TableWrites → List Versions → ℕ → Identity → Option ℕ
next_write tables versions place id = option_and_then (λ base. written_after id base (table_at place versions).spans) (base_at tables versions place id)

-- given the first version above the base of a row that wrote it too: this row was written by both, and no lesser one was
pub record IsLost (next : ℕ → Identity → Option ℕ) (conflict : Conflict) : Type 0 where
  pub later : next conflict.place conflict.late.id ≡ Some conflict.late.version
  pub least : (other : Written) (version : ℕ) → next other.table other.identity ≡ Some version
      → is_gt (written_cmp (record { table = conflict.place; identity = conflict.late.id }) other) ≡ false
