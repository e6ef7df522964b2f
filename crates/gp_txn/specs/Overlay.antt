-- Machinery: what a running transaction wrote of a table, over the rows of a version: a slot for each row that it had not written over
-- an earlier version, in order, the rows that it wrote over earlier versions, and the rows that it inserted. It keeps only the slots of the rows that
-- it wrote, each with the place of the row's span.
use Rattle.std.specs.Prelude.{ℕ, suc, Bool, true, not, ◌&&◌, ◌==◌, List, [], ◌∷◌, ◌++◌, map, filter, drop, Option, Some, None, if◌then◌else◌}
use Rattle.std.specs.List.{cons_option, filter_map, list_any}
use Rattle.std.specs.Option.{option_map}
use Rattle.gp_base.specs.declared.stored.Stored.{Stored}
use Rattle.gp_base.specs.Annotated.{Annotated, unannotated}
use Rattle.gp_base.specs.Identities.{Identity, same_identity}
use Rattle.gp_txn.specs.declared.carried.Carried.{Carried}
use Rattle.gp_txn.specs.declared.overlay.Placed.{Placed}
use Rattle.gp_txn.specs.declared.overlay.Slot.{Slot}
use Rattle.gp_txn.specs.declared.overlay.Slot.TheVariants.{Same, Put, Dropped}
use Rattle.gp_txn.specs.declared.overlay.TableWrites.{TableWrites}
use Rattle.gp_versions.specs.declared.span.Span.{Span}
use Rattle.gp_versions.specs.declared.span.Write.{Write}
use Rattle.gp_versions.specs.Spans.{holds_at, rows_at, spans_at}

-- a row without annotation
abbrev pub PlainRow : Type 0
PlainRow = Annotated (Unit {0})

-- what it wrote of a table, over the rows of the version: the slots of the rows that are not carried, in their order
pub record Overlay : Type 0 where
  pub version : ℕ
  pub slots : List Slot
  pub carried : List Carried
  pub own : List Stored

-- ---- what it keeps

-- what it did to the row whose span is at a place, if the row has a slot
abbrev pub slot_at : ℕ → List Placed → Slot
slot_at place [] = Same
slot_at place (placed ∷ others) = if placed.place == place then placed.slot else slot_at place others

-- whether it wrote the row over an earlier version
abbrev pub is_carried : List Carried → Identity → Bool
is_carried carried id = list_any (λ (row : Carried). same_identity row.id id) carried

-- whether the row of a span has a slot: it is a row of the version, and the transaction did not write it over an earlier version
abbrev pub has_slot : List Carried → ℕ → Span → Bool
has_slot carried version span = holds_at version span && not (is_carried carried span.id)

-- the slots of the rows of a version, in their order, given the place of the first span
abbrev pub slots_from : List Carried → ℕ → List Placed → ℕ → List Span → List Slot
slots_from carried version placed place [] = []
slots_from carried version placed place (span ∷ spans) =
    if has_slot carried version span then slot_at place placed ∷ slots_from carried version placed (suc place) spans
    else slots_from carried version placed (suc place) spans

-- what it keeps of a table with these spans, as slots of all rows of the version
abbrev pub overlay_of : List Span → TableWrites → Overlay
overlay_of spans writes = record {
  version = writes.version;
  slots = slots_from writes.carried writes.version writes.slots 0 spans;
  carried = writes.carried;
  own = writes.own;
}

-- ---- what it sees

-- the first slot; behind the last one, rows are as they were
abbrev pub head_slot : List Slot → Slot
head_slot [] = Same
head_slot (slot ∷ slots) = slot

-- what it sees of a row with this slot
abbrev pub shown : Slot → PlainRow → List PlainRow
shown Same row = row ∷ []
shown (Put cells) row = record { identity = row.identity; cells = cells; mark = true; annotation = tt } ∷ []
shown Dropped row = []

-- what it sees of all of them
abbrev pub overlaid : List Slot → List PlainRow → List PlainRow
overlaid slots [] = []
overlaid slots (row ∷ rows) = shown (head_slot slots) row ++ overlaid (drop 1 slots) rows

-- the spans of a version whose rows have a slot: those that the transaction did not write over an earlier version
abbrev pub slotted_spans : List Carried → ℕ → List Span → List Span
slotted_spans carried version spans = filter (λ (span : Span). not (is_carried carried span.id)) (spans_at version spans)

-- the rows of a version that have a slot
abbrev pub slotted : List Carried → List PlainRow → List PlainRow
slotted carried base = filter (λ row. not (is_carried carried row.identity)) base

-- a row that it wrote over an earlier version, if it sees it
abbrev pub carried_row : Carried → Option PlainRow
carried_row carried = option_map (λ cells. record { identity = carried.id; cells = cells; mark = true; annotation = tt }) carried.row

-- a row that it inserted
abbrev pub own_row : Stored → PlainRow
own_row stored = record { identity = stored.id; cells = stored.row; mark = true; annotation = tt }

-- a row that it sees, with its identity
abbrev pub stored_of : PlainRow → Stored
stored_of row = record { id = row.identity; row = row.cells }

-- what it sees of a table, over the rows of the version that its writes lie over
abbrev pub view_rows : Overlay → List PlainRow → List PlainRow
view_rows writes base = overlaid writes.slots (slotted writes.carried base) ++ (filter_map carried_row writes.carried ++ map own_row writes.own)

-- ---- what it wrote

-- what a commit writes of a row with this slot
abbrev pub slot_write : Slot → PlainRow → Option Write
slot_write Same row = None
slot_write (Put cells) row = Some (record { id = row.identity; row = Some cells })
slot_write Dropped row = Some (record { id = row.identity; row = None })

abbrev pub base_writes : List Slot → List PlainRow → List Write
base_writes slots [] = []
base_writes slots (row ∷ rows) = cons_option (slot_write (head_slot slots) row) (base_writes (drop 1 slots) rows)

-- what it wrote of the rows of the version below
abbrev pub slot_writes : Overlay → List PlainRow → List Write
slot_writes writes base = base_writes writes.slots (slotted writes.carried base)

abbrev pub carried_write : Carried → Write
carried_write carried = record { id = carried.id; row = carried.row }

abbrev pub own_write : Stored → Write
own_write stored = record { id = stored.id; row = Some stored.row }

-- what it wrote of a table, but for the rows that it inserted and then deleted
abbrev pub table_writes : Overlay → List PlainRow → List Write
table_writes writes base = slot_writes writes base ++ (map carried_write writes.carried ++ map own_write writes.own)

-- no writes of a table, over a version
abbrev pub no_writes : ℕ → TableWrites
no_writes version = record { version = version; slots = []; carried = []; own = [] }

-- the rows of the version that its writes of a table lie over
abbrev pub rows_below : Overlay → List Span → List PlainRow
rows_below writes spans = rows_at unannotated writes.version spans
