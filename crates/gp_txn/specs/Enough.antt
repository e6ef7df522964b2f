-- Machinery: the places of rows at which a statement or a query has to look, and how their slots are found.
use Rattle.std.specs.Prelude.{◌≡◌, ℕ, Bool, true, false, ◌==◌, List, [], ◌∷◌, Option, Some, None, slice_get, nat_lt, if◌then◌else◌}
use Rattle.std.specs.List.{list_any}
use Rattle.std.specs.Option.{option_and_then}
use Rattle.gp_base.specs.declared.cell.Cell.{Cell}
use Rattle.gp_versions.specs.declared.span.Span.{Span}
use Rattle.gp_versions.specs.Spans.{holds_at}
use Rattle.gp_txn.specs.declared.carried.Carried.{Carried}
use Rattle.gp_txn.specs.declared.overlay.Placed.{Placed}
use Rattle.gp_txn.specs.declared.overlay.Slot.{Slot}
use Rattle.gp_txn.specs.declared.overlay.Slot.TheVariants.{Same, Put, Dropped}
use Rattle.gp_txn.specs.Ascending.{IsAscending}
use Rattle.gp_txn.specs.Overlay.{has_slot, slot_at}

-- whether the place is among these
abbrev pub is_among : List ℕ → ℕ → Bool
is_among places place = list_any (λ other. other == place) places

-- whether what is seen of a row with this slot passes a test
abbrev pub passes_in : (List Cell → Bool) → Slot → List Cell → Bool
passes_in test Same cells = test cells
passes_in test (Put now) cells = test now
passes_in test Dropped cells = false

-- These places are enough for a statement that changes, or a query that wants, only rows that pass a test: what is seen of a row of the version at
-- another place does not pass.
pub record IsEnough (test : List Cell → Bool) (placed : List Placed) (version : ℕ) (spans : List Span) (places : List ℕ) : Type 0 where
  pub ascending : IsAscending places
  pub others : (place : ℕ) (span : Span) → slice_get spans place ≡ Some span → holds_at version span ≡ true → is_among places place ≡ false
      → passes_in test (slot_at place placed) span.row ≡ false

-- ---- the row at a place

abbrev pub if_slotted : List Carried → ℕ → Span → Option Span
if_slotted carried version span = if has_slot carried version span then Some span else None

-- the span at a place, if its row has a slot
abbrev pub slotted_at : List Carried → ℕ → List Span → ℕ → Option Span
slotted_at carried version spans place = option_and_then (if_slotted carried version) (slice_get spans place)

-- the slots from a place on
abbrev pub seek : ℕ → List Placed → List Placed
seek place [] = []
seek place (placed ∷ others) = if nat_lt placed.place place then seek place others else placed ∷ others

-- the first slot, if it is at the place
abbrev pub first_at : ℕ → List Placed → Slot
first_at place [] = Same
first_at place (placed ∷ others) = if placed.place == place then placed.slot else Same

-- a row without a slot is as it was
abbrev pub slot_or : Option Slot → Slot
slot_or None = Same
slot_or (Some slot) = slot
