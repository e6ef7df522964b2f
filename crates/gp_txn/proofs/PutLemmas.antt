-- The loop that counts the rows that a commit puts in place of the rows that have a slot, and the rows of all writes.
use Rattle.std.proofs.Common.{◌≡◌, ℕ, suc, ◌+◌, List, [], ◌++◌, ◌∷◌, Option, Some, None, map, drop, length, refl, ap, sym, ◌∙◌, arith}
use Rattle.std.specs.List.{cons_option, filter_map, flat_map}
use Rattle.std.specs.Option.{option_to_list}
use Rattle.gp_base.specs.declared.cell.Cell.{Cell}
use Rattle.gp_base.specs.declared.stored.Stored.{Stored}
use Rattle.gp_base.specs.Annotated.{unannotated}
use Rattle.gp_base.specs.Identities.{Identity}
use Rattle.gp_versions.specs.declared.span.Span.{Span}
use Rattle.gp_versions.specs.declared.span.Write.{Write}
use Rattle.gp_versions.specs.Commits.{live_rows}
use Rattle.gp_versions.specs.Spans.{row_of, rows_at}
use Rattle.gp_txn.specs.declared.carried.Carried.{Carried}
use Rattle.gp_txn.specs.declared.overlay.Slot.{Slot}
use Rattle.gp_txn.specs.Overlay.{Overlay, PlainRow, base_writes, carried_row, carried_write, head_slot, own_write, slot_write, slot_writes, slots_from, slotted, slotted_spans, table_writes}
use Rattle.gp_txn.specs.declared.overlay.Placed.{Placed}
use Rattle.gp_txn.specs.Ascending.{IsAscending, place_of}
use Rattle.gp_txn.specs.Passes.{of_entry, row_writes}
use Rattle.gp_txn.proofs.PlacedLemmas.{entries-made, made_of}
use Rattle.gp_txn.proofs.SlottedLemmas.{rows-spans}

pub cons_option-is : {X : Type 0} (x : Option X) (xs : List X) → cons_option x xs ≡ option_to_list x ++ xs
cons_option-is None xs = refl
cons_option-is (Some x) xs = refl

-- of all rows with a slot
pub writes-made : (slots : List Slot) (spans : List Span) → made_of row_writes slots spans ≡ base_writes slots (map (row_of unannotated) spans)
writes-made slots [] = refl
writes-made slots (span ∷ spans) =
    ap (λ (rest : List Write). option_to_list (slot_write (head_slot slots) (row_of unannotated span)) ++ rest) (writes-made (drop 1 slots) spans)
    ∙ sym (cons_option-is (slot_write (head_slot slots) (row_of unannotated span)) (base_writes (drop 1 slots) (map (row_of unannotated) spans)))

length-own : (own : List Stored) → length (live_rows unannotated (map own_write own)) ≡ length own
length-own [] = refl
length-own (stored ∷ own) = ap suc (length-own own)

append-one : (id : Identity) (row : Option (List Cell)) (xs ys : List Write) → length (live_rows unannotated (xs ++ ys)) ≡ length (live_rows unannotated xs) + length (live_rows unannotated ys)
    → length (live_rows unannotated (record { id = id; row = row } ∷ (xs ++ ys))) ≡ length (live_rows unannotated (record { id = id; row = row } ∷ xs)) + length (live_rows unannotated ys)
append-one id None xs ys rest = rest
append-one id (Some cells) xs ys rest = omega (arith, rest)

pub append-live : (xs ys : List Write) → length (live_rows unannotated (xs ++ ys)) ≡ length (live_rows unannotated xs) + length (live_rows unannotated ys)
append-live [] ys = omega arith
append-live (x ∷ xs) ys = append-one x.id x.row xs ys (append-live xs ys)

carried-one : (carried : Carried) (row : Option (List Cell)) (others : List Carried) → carried.row ≡ row → length (live_rows unannotated (map carried_write others)) ≡ length (filter_map carried_row others)
    → length (live_rows unannotated (map carried_write (carried ∷ others))) ≡ length (filter_map carried_row (carried ∷ others))
carried-one carried None others is rest = rw is rest
carried-one carried (Some cells) others is rest = rw is (ap suc rest)

length-carried : (carried : List Carried) → length (live_rows unannotated (map carried_write carried)) ≡ length (filter_map carried_row carried)
length-carried [] = refl
length-carried (row ∷ rows) = carried-one row row.row rows refl (length-carried rows)

-- the rows put in place of rows of the version below, those written over earlier versions, and those inserted
pub live-counted : (writes : Overlay) (base : List PlainRow)
    → length (live_rows unannotated (table_writes writes base)) ≡ length (live_rows unannotated (slot_writes writes base)) + length (filter_map carried_row writes.carried) + length writes.own
live-counted writes base =
    omega (arith, append-live (slot_writes writes base) (map carried_write writes.carried ++ map own_write writes.own), append-live (map carried_write writes.carried) (map own_write writes.own), length-carried writes.carried, length-own writes.own)

pub writes-entries : (carried : List Carried) (v : ℕ) (spans : List Span) (placed : List Placed) → IsAscending (map place_of placed)
    → flat_map (of_entry row_writes carried v spans) placed ≡ base_writes (slots_from carried v placed 0 spans) (slotted carried (rows_at unannotated v spans))
writes-entries carried v spans placed ascend =
    entries-made row_writes carried v spans placed (λ span. refl) ascend
    ∙ writes-made (slots_from carried v placed 0 spans) (slotted_spans carried v spans)
    ∙ ap (base_writes (slots_from carried v placed 0 spans)) (sym (rows-spans carried v spans))
