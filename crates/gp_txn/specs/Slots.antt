-- Machinery: the writes of a table after an UPDATE or a DELETE.
use Rattle.std.specs.Prelude.{ℕ, suc, ◌==◌, nat_lt, Bool, false, List, [], ◌∷◌, ◌++◌, drop, map, slice_set, length, Option, Some, None, if◌then◌else◌}
use Rattle.std.specs.List.{filter_map}
use Rattle.gp_base.specs.declared.cell.Cell.{Cell}
use Rattle.gp_base.specs.declared.stored.Stored.{Stored}
use Rattle.gp_expr.specs.Values.{passes}
use Rattle.gp_algebra.specs.Effects.{assigned}
use Rattle.gp_txn.specs.declared.carried.Carried.{Carried}
use Rattle.gp_txn.specs.declared.overlay.Placed.{Placed}
use Rattle.gp_txn.specs.declared.overlay.Slot.{Slot}
use Rattle.gp_txn.specs.declared.overlay.Slot.TheVariants.{Same, Put, Dropped}
use Rattle.gp_txn.specs.declared.overlay.TableWrites.{TableWrites}
use Rattle.gp_txn.specs.Changes.{Change, update, delete, cond_of, touched}
use Rattle.gp_txn.specs.Overlay.{Overlay, PlainRow, has_slot, head_slot, slot_at, slotted}
use Rattle.gp_txn.specs.Transactions.{Writes}
use Rattle.gp_versions.specs.declared.span.Span.{Span}

-- the cells of a row after the statement, which writes it
abbrev pub cells_for : Change → List Cell → Option (List Cell)
cells_for (update sets cond) cells = Some (assigned sets cells)
cells_for (delete cond) cells = None

-- the slot of a row that was written, with these cells
abbrev pub slot_of : Option (List Cell) → Slot
slot_of (Some cells) = Put cells
slot_of None = Dropped

-- what it does to a row of these cells
abbrev pub effect : Change → List Cell → Slot
effect change cells = if passes (cond_of change) cells then slot_of (cells_for change cells) else Same

-- the cells that are seen of a row of these cells
abbrev pub seen : Slot → List Cell → Option (List Cell)
seen Same cells = Some cells
seen (Put now) cells = Some now
seen Dropped cells = None

-- how many rows are no longer seen of it
abbrev pub dropped_count : Slot → ℕ
dropped_count Same = 0
dropped_count (Put now) = 0
dropped_count Dropped = 1

-- how many rows a commit puts in its place
abbrev pub put_count : Slot → ℕ
put_count Same = 0
put_count (Put now) = 1
put_count Dropped = 0

-- whether a row passes that is seen
abbrev pub passes_seen : Change → Option (List Cell) → Bool
passes_seen change None = false
passes_seen change (Some cells) = passes (cond_of change) cells

abbrev pub is_touched : Change → Slot → List Cell → Bool
is_touched change slot cells = passes_seen change (seen slot cells)

-- the cells of a row that is seen, after the statement, which writes it
abbrev pub cells_seen : Change → Option (List Cell) → Option (List Cell)
cells_seen change None = None
cells_seen change (Some cells) = cells_for change cells

-- the slot after the statement
abbrev pub changed_slot : Change → Slot → List Cell → Slot
changed_slot change slot cells = if is_touched change slot cells then slot_of (cells_seen change (seen slot cells)) else slot

abbrev pub changed_slots : Change → List Slot → List PlainRow → List Slot
changed_slots change slots [] = []
changed_slots change slots (row ∷ rows) = changed_slot change (head_slot slots) row.cells ∷ changed_slots change (drop 1 slots) rows

-- an inserted row after the statement
abbrev pub stored_after : Slot → Stored → Option Stored
stored_after Same stored = Some stored
stored_after (Put cells) stored = Some (record { id = stored.id; row = cells })
stored_after Dropped stored = None

abbrev pub changed_own : Change → List Stored → List Stored
changed_own change own = filter_map (λ (stored : Stored). stored_after (effect change stored.row) stored) own

-- the cells of a row that was written over an earlier version, after the statement
abbrev pub cells_after : Change → Option (List Cell) → Option (List Cell)
cells_after change row = if passes_seen change row then cells_seen change row else row

-- the row keeps its base
abbrev pub carried_after : Change → Carried → Carried
carried_after change carried = record { id = carried.id; base = carried.base; row = cells_after change carried.row }

abbrev pub changed_carried : Change → List Carried → List Carried
changed_carried change carried = map (carried_after change) carried

-- the writes of a table after the statement, over the rows of the version below
abbrev pub changed_overlay : Change → Overlay → List PlainRow → Overlay
changed_overlay change writes base = record {
  version = writes.version;
  slots = changed_slots change writes.slots (slotted writes.carried base);
  carried = changed_carried change writes.carried;
  own = changed_own change writes.own;
}

-- the slot of the row at a place after the statement, if it writes the row
abbrev pub written_entry : Change → ℕ → Slot → List Cell → List Placed
written_entry change place slot cells =
    if is_touched change slot cells then record { place = place; slot = slot_of (cells_seen change (seen slot cells)) } ∷ [] else []

-- the slots of the rows that the statement writes, given the place of the first span
abbrev pub written_from : Change → List Carried → ℕ → List Placed → ℕ → List Span → List Placed
written_from change carried version placed place [] = []
written_from change carried version placed place (span ∷ spans) =
    (if has_slot carried version span then written_entry change place (slot_at place placed) span.row else [])
    ++ written_from change carried version placed (suc place) spans

-- one slot and others: those at places below come first, and behind it is what is made of those above
abbrev pub put_at : Placed → (List Placed → List Placed) → List Placed → List Placed
put_at new more [] = new ∷ more []
put_at new more (old ∷ others) =
    if nat_lt old.place new.place then old ∷ put_at new more others
    else new ∷ more (if old.place == new.place then others else old ∷ others)

-- slots, and new ones, which are in place of those that were there
abbrev pub put_all : List Placed → List Placed → List Placed
put_all [] old = old
put_all (new ∷ others) old = put_at new (put_all others) old

-- what is kept of a table with these spans after the statement
abbrev pub changed_table : Change → List Span → TableWrites → TableWrites
changed_table change spans writes = record {
  version = writes.version;
  slots = put_all (written_from change writes.carried writes.version writes.slots 0 spans) writes.slots;
  carried = changed_carried change writes.carried;
  own = changed_own change writes.own;
}

-- what was made, or else what was there
abbrev pub made_or : {X : Type 0} → X → Option X → X
made_or old None = old
made_or old (Some made) = made

-- what a transaction keeps after statement k, which left these writes of a table
abbrev pub put_table : ℕ → ℕ → TableWrites → Writes → Writes
put_table k place table writes = record {
  t = writes.t;
  read_committed = writes.read_committed;
  begin = writes.begin;
  last = k;
  tables = slice_set writes.tables place table;
}

-- the writes of a table with more inserted rows
abbrev pub with_own : List Stored → TableWrites → TableWrites
with_own new table = record { version = table.version; slots = table.slots; carried = table.carried; own = table.own ++ new }

-- how many rows it writes
abbrev pub count_touched : Change → List PlainRow → ℕ
count_touched change rows = length (touched change rows)
