-- Machinery: what the passes over the slots of a table make.
use Rattle.std.specs.Prelude.{ℕ, List, [], ◌∷◌, map, Option, Some, None}
use Rattle.std.specs.Option.{option_to_list}
use Rattle.gp_base.specs.declared.stored.Stored.{Stored}
use Rattle.gp_base.specs.Annotated.{unannotated}
use Rattle.gp_expr.specs.Expressions.{Cond}
use Rattle.gp_versions.specs.declared.span.Span.{Span}
use Rattle.gp_versions.specs.declared.span.Write.{Write}
use Rattle.gp_versions.specs.Spans.{row_of}
use Rattle.gp_txn.specs.declared.carried.Carried.{Carried}
use Rattle.gp_txn.specs.declared.conflict.Late.{Late}
use Rattle.gp_txn.specs.declared.overlay.Placed.{Placed}
use Rattle.gp_txn.specs.declared.overlay.Slot.{Slot}
use Rattle.gp_txn.specs.declared.overlay.Slot.TheVariants.{Same, Put, Dropped}
use Rattle.gp_txn.specs.Changes.{Change, touched}
use Rattle.gp_txn.specs.Conflicts.{late_of}
use Rattle.gp_txn.specs.Enough.{slotted_at}
use Rattle.gp_txn.specs.Overlay.{PlainRow, shown, slot_at, slot_write, stored_of}
use Rattle.gp_txn.specs.Slots.{written_entry}
use Rattle.gp_txn.specs.Wanted.{wanted}

-- what is made of a row with this slot, if the row has a slot
abbrev pub made_of_slot : {X : Type 0} → (Slot → Span → List X) → Slot → Option Span → List X
made_of_slot make slot None = []
made_of_slot make slot (Some span) = make slot span

-- of the row at a place
abbrev pub made_of_place : {X : Type 0} → (ℕ → Slot → Span → List X) → List Carried → ℕ → List Placed → List Span → ℕ → List X
made_of_place make carried version placed spans place = made_of_slot (make place) (slot_at place placed) (slotted_at carried version spans place)

-- of the row of an entry
abbrev pub of_entry : {X : Type 0} → (Slot → Span → List X) → List Carried → ℕ → List Span → Placed → List X
of_entry make carried version spans placed = made_of_slot make placed.slot (slotted_at carried version spans placed.place)

-- ---- what is made

-- what a commit writes of the row
abbrev pub row_writes : Slot → Span → List Write
row_writes slot span = option_to_list (slot_write slot (row_of unannotated span))

-- the row, if a later commit wrote it
abbrev pub row_lates : Slot → Span → List Late
row_lates slot span = option_to_list (late_of slot span)

-- the row, if the transaction deleted it
abbrev pub row_dropped : Slot → Span → List Span
row_dropped Same span = []
row_dropped (Put cells) span = []
row_dropped Dropped span = span ∷ []

-- what is seen of it, if it is wanted
abbrev pub row_wanted : Option Cond → Slot → Span → List Stored
row_wanted cond slot span = map stored_of (wanted cond (shown slot (row_of unannotated span)))

-- what is seen of it, if the statement writes it
abbrev pub row_touched : Change → Slot → Span → List PlainRow
row_touched change slot span = touched change (shown slot (row_of unannotated span))

-- its slot after the statement, if that writes it
abbrev pub row_entry : Change → ℕ → Slot → Span → List Placed
row_entry change place slot span = written_entry change place slot span.row
