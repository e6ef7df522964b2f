-- Loops that make the rows that a transaction sees, and that count them.
use Rattle.std.proofs.Common.{◌≡◌, ℕ, ◌+◌, true, false, cond, List, [], ◌∷◌, ◌++◌, map, drop, length, refl, ap, sym, ◌∙◌, arith, Option, None}
use Rattle.std.specs.List.{filter_map, flat_map}
use Rattle.std.proofs.lemmas.List.{map-append, append_assoc, length-append}
use Rattle.std.proofs.lemmas.List.Elements.{filter-append}
use Rattle.gp_base.specs.declared.stored.Stored.{Stored}
use Rattle.gp_base.specs.Annotated.{unannotated}
use Rattle.gp_expr.specs.Expressions.{Cond}
use Rattle.gp_algebra.specs.Answers.{passes_where}
use Rattle.gp_versions.specs.declared.span.Span.{Span}
use Rattle.gp_versions.specs.Spans.{row_of, rows_at}
use Rattle.gp_txn.specs.declared.carried.Carried.{Carried}
use Rattle.gp_txn.specs.declared.overlay.Slot.{Slot}
use Rattle.gp_txn.specs.declared.overlay.Slot.TheVariants.{Same, Put, Dropped}
use Rattle.gp_txn.specs.Overlay.{Overlay, PlainRow, carried_row, head_slot, shown, slots_from, slotted, slotted_spans, overlaid, own_row, stored_of, view_rows}
use Rattle.gp_txn.specs.Slots.{dropped_count}
use Rattle.gp_txn.specs.declared.overlay.Placed.{Placed}
use Rattle.gp_txn.specs.Ascending.{IsAscending, place_of}
use Rattle.gp_txn.specs.Enough.{IsEnough, passes_in}
use Rattle.gp_txn.specs.Passes.{of_entry, made_of_place, row_dropped, row_wanted}
use Rattle.gp_txn.specs.Wanted.{wanted, wanted_own}
use Rattle.gp_txn.proofs.PlacedLemmas.{anywhere, entries-made, made_of, places-made}
use Rattle.gp_txn.proofs.SlottedLemmas.{rows-spans}
use Rattle.gp_base.proofs.SmallLemmas.{filter-map}

pub wanted-all : (rows : List PlainRow) → wanted None rows ≡ rows
wanted-all [] = refl
wanted-all (row ∷ rows) = ap (λ (others : List PlainRow). row ∷ others) (wanted-all rows)

wanted-append : (c : Option Cond) (xs ys : List PlainRow) → map stored_of (wanted c (xs ++ ys)) ≡ map stored_of (wanted c xs) ++ map stored_of (wanted c ys)
wanted-append c xs ys = ap (λ (rows : List PlainRow). map stored_of rows) (filter-append (λ (row : PlainRow). passes_where c row.cells) xs ys) ∙ map-append stored_of (wanted c xs) (wanted c ys)

pub wanted-made : (c : Option Cond) (slots : List Slot) (spans : List Span) → made_of (row_wanted c) slots spans ≡ map stored_of (wanted c (overlaid slots (map (row_of unannotated) spans)))
wanted-made c slots [] = refl
wanted-made c slots (span ∷ spans) =
    ap (λ (rows : List Stored). map stored_of (wanted c (shown (head_slot slots) (row_of unannotated span))) ++ rows) (wanted-made c (drop 1 slots) spans)
    ∙ sym (wanted-append c (shown (head_slot slots) (row_of unannotated span)) (overlaid (drop 1 slots) (map (row_of unannotated) spans)))

own-stored : (own : List Stored) → map stored_of (map own_row own) ≡ own
own-stored [] = refl
own-stored (stored ∷ own) = ap (λ (others : List Stored). stored ∷ others) (own-stored own)

own-wanted : (c : Option Cond) (own : List Stored) → map stored_of (wanted c (map own_row own)) ≡ wanted_own c own
own-wanted c own = ap (λ (rows : List PlainRow). map stored_of rows) (filter-map (λ (row : PlainRow). passes_where c row.cells) own_row own) ∙ own-stored (wanted_own c own)

pub view-stored : (c : Option Cond) (writes : Overlay) (base : List PlainRow)
    → map stored_of (wanted c (view_rows writes base))
    ≡ (map stored_of (wanted c (overlaid writes.slots (slotted writes.carried base))) ++ map stored_of (wanted c (filter_map carried_row writes.carried))) ++ wanted_own c writes.own
view-stored c writes base =
    let slots = overlaid writes.slots (slotted writes.carried base) in
    let rows = filter_map carried_row writes.carried in
    wanted-append c slots (rows ++ map own_row writes.own)
    ∙ ap (λ (others : List Stored). map stored_of (wanted c slots) ++ others) (wanted-append c rows (map own_row writes.own) ∙ ap (λ (others : List Stored). map stored_of (wanted c rows) ++ others) (own-wanted c writes.own))
    ∙ sym (append_assoc (map stored_of (wanted c slots)) (map stored_of (wanted c rows)) (wanted_own c writes.own))

pub length-shown : (slot : Slot) (row : PlainRow) → length (shown slot row) + dropped_count slot ≡ 1
length-shown Same row = refl
length-shown (Put cells) row = refl
length-shown Dropped row = refl

length-dropped : (slot : Slot) (span : Span) → length (row_dropped slot span) ≡ dropped_count slot
length-dropped Same span = refl
length-dropped (Put cells) span = refl
length-dropped Dropped span = refl

-- the other rows are seen
pub dropped-made : (slots : List Slot) (spans : List Span) → length (made_of row_dropped slots spans) + length (overlaid slots (map (row_of unannotated) spans)) ≡ length spans
dropped-made slots [] = refl
dropped-made slots (span ∷ spans) =
    omega (
      arith,
      length-append (row_dropped (head_slot slots) span) (made_of row_dropped (drop 1 slots) spans),
      length-append (shown (head_slot slots) (row_of unannotated span)) (overlaid (drop 1 slots) (map (row_of unannotated) spans)),
      length-dropped (head_slot slots) span,
      length-shown (head_slot slots) (row_of unannotated span),
      dropped-made (drop 1 slots) spans,
    )

pub dropped-entries : (carried : List Carried) (v : ℕ) (spans : List Span) (placed : List Placed) → IsAscending (map place_of placed)
    → length (flat_map (of_entry row_dropped carried v spans) placed) + length (overlaid (slots_from carried v placed 0 spans) (slotted carried (rows_at unannotated v spans))) ≡ length (slotted_spans carried v spans)
dropped-entries carried v spans placed ascend =
    (λ i. length (entries-made row_dropped carried v spans placed (λ span. refl) ascend i) + length (overlaid (slots_from carried v placed 0 spans) (rows-spans carried v spans i)))
    ∙ dropped-made (slots_from carried v placed 0 spans) (slotted_spans carried v spans)

wanted-none : (c : Option Cond) (slot : Slot) (span : Span) → passes_in (passes_where c) slot span.row ≡ false → row_wanted c slot span ≡ []
wanted-none c Same span none = ap (λ b. map stored_of (cond b (row_of unannotated span ∷ []) [])) none
wanted-none c (Put cells) span none = ap (λ b. map stored_of (cond b (record { identity = span.id; cells = cells; mark = true; annotation = tt } ∷ []) [])) none
wanted-none c Dropped span none = refl

pub wanted-places : (c : Option Cond) (carried : List Carried) (v : ℕ) (spans : List Span) (placed : List Placed) (places : List ℕ) → IsEnough (passes_where c) placed v spans places
    → flat_map (made_of_place (anywhere (row_wanted c)) carried v placed spans) places ≡ map stored_of (wanted c (overlaid (slots_from carried v placed 0 spans) (slotted carried (rows_at unannotated v spans))))
wanted-places c carried v spans placed places enough =
    places-made (row_wanted c) carried v spans placed (passes_where c) places (wanted-none c) enough
    ∙ wanted-made c (slots_from carried v placed 0 spans) (slotted_spans carried v spans)
    ∙ ap (λ (rows : List PlainRow). map stored_of (wanted c (overlaid (slots_from carried v placed 0 spans) rows))) (sym (rows-spans carried v spans))
