-- What is kept of a table after an UPDATE or a DELETE.
use Rattle.std.proofs.Common.{◌≡◌, ℕ, suc, ◌+◌, ◌<◌, ◌≤◌, ◌==◌, nat_lt, Bool, true, false, cond, not, ◌&&◌, Some, None, List, [], ◌∷◌, ◌++◌, map, length, slice_get, refl, ap, sym, ◌∙◌, subst, arith, inl, inr}
use Rattle.std.specs.List.{cons_option, filter, filter_map, flat_map, AllByRecursion}
use Rattle.std.specs.Option.{option_map}
use Rattle.std.proofs.lemmas.Bool.{cases_lt, le-ltb, lt-ltb}
use Rattle.std.proofs.lemmas.Bool.Decides.{nat_tests}
use Rattle.std.proofs.lemmas.List.{length-append}
use Rattle.std.proofs.lemmas.List.Elements.{filter-append}
use Rattle.gp_base.specs.declared.cell.Cell.{Cell}
use Rattle.gp_base.specs.declared.stored.Stored.{Stored}
use Rattle.gp_base.specs.Annotated.{unannotated}
use Rattle.gp_base.specs.Identities.{Identity}
use Rattle.gp_base.proofs.SmallLemmas.{each_append, eq_itself, eq_turned, not_eq}
use Rattle.gp_versions.specs.declared.span.Span.{Span}
use Rattle.gp_versions.specs.Spans.{holds_at, row_of, rows_at, spans_at}
use Rattle.gp_txn.specs.declared.carried.Carried.{Carried}
use Rattle.gp_txn.specs.declared.overlay.Placed.{Placed}
use Rattle.gp_txn.specs.declared.overlay.Slot.{Slot}
use Rattle.gp_txn.specs.declared.overlay.Slot.TheVariants.{Same, Put, Dropped}
use Rattle.gp_txn.specs.declared.overlay.TableWrites.{TableWrites}
use Rattle.gp_txn.specs.Ascending.{IsAscending, place_of}
use Rattle.gp_expr.specs.Values.{passes}
use Rattle.gp_txn.specs.Changes.{Change, cond_of, touched}
use Rattle.gp_txn.specs.Enough.{IsEnough, passes_in, seek}
use Rattle.gp_txn.specs.Merging.{merged, merged_at}
use Rattle.gp_txn.specs.Overlay.{Overlay, PlainRow, carried_row, has_slot, is_carried, overlaid, overlay_of, own_row, rows_below, slot_at, slots_from, slotted, slotted_spans, view_rows}
use Rattle.gp_txn.specs.Passes.{made_of_place, row_entry, row_touched}
use Rattle.gp_txn.specs.Slots.{cells_for, cells_seen, changed_carried, changed_overlay, changed_own, changed_slot, changed_slots, changed_table, count_touched, is_touched, passes_seen, put_all, put_at, seen, slot_of, stored_after, written_entry, written_from}
use Rattle.gp_txn.proofs.MergingLemmas.{merged-ascending}
use Rattle.gp_txn.proofs.OverlayLemmas.{carried-same, touched-made}
use Rattle.gp_txn.proofs.PairLemmas.{all-map, all-weaker}
use Rattle.gp_txn.proofs.PlacedLemmas.{anywhere, made-dense, made-places, made_from, seek-front}
use Rattle.gp_txn.proofs.SlottedLemmas.{rows-spans}

-- ---- new slots in place of others

-- the slot of a place among these, or else another one
abbrev over : ℕ → List Placed → Slot → Slot
over p [] slot = slot
over p (new ∷ others) slot = cond (new.place == p) new.slot (over p others slot)

over-none : (p : ℕ) (new : List Placed) (slot : Slot) → AllByRecursion (λ (one : Placed). p < one.place) new → over p new slot ≡ slot
over-none p [] slot above = refl
over-none p (one ∷ others) slot above = ap (λ b. cond b one.slot (over p others slot)) (eq_turned p one.place (not_eq p one.place above.0)) ∙ over-none p others slot above.1

module _ (p : ℕ) (new : Placed) (others : List Placed) (more : List Placed → List Placed) (above : AllByRecursion (λ (one : Placed). new.place < one.place) others)
    (each : (ys : List Placed) → slot_at p (more ys) ≡ over p others (slot_at p ys)) where
  abbrev with_new : Slot → Slot
  with_new slot = over p (new ∷ others) slot

  -- a slot below the new one
  below-slot : (first : Placed) (slot other : Slot) (b : Bool) → (first.place == p) ≡ b → first.place < new.place → slot ≡ with_new other → cond b first.slot slot ≡ with_new (cond b first.slot other)
  below-slot first slot other true is low rest =
      let same : first.place ≡ p = grind (arith, nat_tests) in
      sym (over-none p (new ∷ others) first.slot (omega (arith, same, low), all-weaker (λ (one : Placed). new.place < one.place) (λ (one : Placed). p < one.place) (λ one is. omega (arith, same, low, is)) others above))
  below-slot first slot other false is low rest = rest

  -- one that is not
  behind-slot : (first : Placed) (rest : List Placed) (c b : Bool) → (new.place == p) ≡ c → (first.place == new.place) ≡ b
      → cond c new.slot (over p others (slot_at p (cond b rest (first ∷ rest)))) ≡ cond c new.slot (over p others (slot_at p (first ∷ rest)))
  behind-slot first rest true b is-c is-b = refl
  behind-slot first rest false true is-c is-b =
      let same : first.place ≡ new.place = grind (arith, nat_tests) in
      let apart : (first.place == p) ≡ false = subst (λ (q : ℕ). (q == p) ≡ false) (sym same) is-c in
      ap (λ slot. over p others slot) (sym (ap (λ d. cond d first.slot (slot_at p rest)) apart))
  behind-slot first rest false false is-c is-b = refl

  put-at-slot : (old : List Placed) → slot_at p (put_at new more old) ≡ with_new (slot_at p old)
  put-at-slot [] = ap (λ slot. cond (new.place == p) new.slot slot) (each [])
  put-at-slot (first ∷ rest) =
      let behind = cond (first.place == new.place) rest (first ∷ rest) in
      elim (cases_lt first.place new.place) [
        | inl low ↦
            ap (λ b. slot_at p (cond b (first ∷ put_at new more rest) (new ∷ more behind))) (lt-ltb first.place new.place low)
            ∙ below-slot first (slot_at p (put_at new more rest)) (slot_at p rest) (first.place == p) refl low (put-at-slot rest)
        | inr high ↦
            ap (λ b. slot_at p (cond b (first ∷ put_at new more rest) (new ∷ more behind))) (le-ltb first.place new.place high)
            ∙ ap (λ slot. cond (new.place == p) new.slot slot) (each behind)
            ∙ behind-slot first rest (new.place == p) (first.place == new.place) refl refl
      ]

all-placed : (n : ℕ) (some : List Placed) → AllByRecursion (λ other. n < other) (map place_of some) → AllByRecursion (λ (one : Placed). n < one.place) some
all-placed n [] all = tt
all-placed n (one ∷ some) all = (all.0, all-placed n some all.1)

put-slot : (p : ℕ) (new old : List Placed) → IsAscending (map place_of new) → slot_at p (put_all new old) ≡ over p new (slot_at p old)
put-slot p [] old up = refl
put-slot p (one ∷ others) old up = put-at-slot p one others (put_all others) (all-placed one.place others up.0) (λ ys. put-slot p others ys up.1) old

-- their places are the union
put-at-places : (new : Placed) (more : List Placed → List Placed) (places : List ℕ → List ℕ) → ((ys : List Placed) → map place_of (more ys) ≡ places (map place_of ys)) → (old : List Placed)
    → map place_of (put_at new more old) ≡ merged_at new.place places (map place_of old)
put-at-places new more places each [] = ap (λ rest. new.place ∷ rest) (each [])
put-at-places new more places each (first ∷ rest) =
    let behind = cond (first.place == new.place) rest (first ∷ rest) in
    let here : map place_of behind ≡ cond (first.place == new.place) (map place_of rest) (first.place ∷ map place_of rest) =
    elim (first.place == new.place) as (λ b. map place_of (cond b rest (first ∷ rest)) ≡ cond b (map place_of rest) (first.place ∷ map place_of rest)) [ true ↦ refl | false ↦ refl ] in
    elim (nat_lt first.place new.place) as (λ b. map place_of (cond b (first ∷ put_at new more rest) (new ∷ more behind))
    ≡ cond b (first.place ∷ merged_at new.place places (map place_of rest)) (new.place ∷ places (cond (first.place == new.place) (map place_of rest) (first.place ∷ map place_of rest)))) [
      | true ↦ ap (λ others. first.place ∷ others) (put-at-places new more places each rest)
      | false ↦ ap (λ others. new.place ∷ others) (each behind ∙ ap places here)
    ]

put-places : (new old : List Placed) → map place_of (put_all new old) ≡ merged (map place_of new) (map place_of old)
put-places [] old = refl
put-places (one ∷ others) old = put-at-places one (put_all others) (merged (map place_of others)) (put-places others) old

pub put-ascending : (new old : List Placed) → IsAscending (map place_of new) → IsAscending (map place_of old) → IsAscending (map place_of (put_all new old))
put-ascending new old up low = subst IsAscending (sym (put-places new old)) (merged-ascending (map place_of new) (map place_of old) up low)

-- slots below the new ones stay where they are
pub put-behind : (new : Placed) (others front back : List Placed) → AllByRecursion (λ (one : Placed). one.place < new.place) front → put_all (new ∷ others) (front ++ back) ≡ front ++ put_all (new ∷ others) back
put-behind new others [] back below = refl
put-behind new others (first ∷ front) back below =
    ap (λ b. cond b (first ∷ put_all (new ∷ others) (front ++ back)) (new ∷ put_all others (cond (first.place == new.place) (front ++ back) (first ∷ (front ++ back))))) (lt-ltb first.place new.place below.0)
    ∙ ap (λ rest. first ∷ rest) (put-behind new others front back below.1)

pub put-lifted : (new front back old : List Placed) (first : Placed) → slice_get new 0 ≡ Some first → front ++ back ≡ old → length front + length (seek first.place old) ≡ length old → front ++ put_all new back ≡ put_all new old
put-lifted [] front back old first is same count = absurd cc
put-lifted (one ∷ others) front back old first is same count =
    let e : one ≡ first = cc in
    let here : length front + length (seek one.place old) ≡ length old = subst (λ (p : Placed). length front + length (seek p.place old) ≡ length old) (sym e) count in
    sym (put-behind one others front back (seek-front one.place front back (subst (λ xs. length front + length (seek one.place xs) ≡ length xs) (sym same) here))) ∙ ap (put_all (one ∷ others)) same

-- ---- all rows

-- the statement writes a row exactly if what is seen of it passes
touched-in : (change : Change) (slot : Slot) (cells : List Cell) → is_touched change slot cells ≡ passes_in (passes (cond_of change)) slot cells
touched-in change Same cells = refl
touched-in change (Put now) cells = refl
touched-in change Dropped cells = refl

entry-above : (change : Change) (n place : ℕ) (slot : Slot) (cells : List Cell) → n ≤ place → AllByRecursion (λ (one : Placed). n ≤ one.place) (written_entry change place slot cells)
entry-above change n place slot cells low =
    elim (is_touched change slot cells) as (λ b. AllByRecursion (λ (one : Placed). n ≤ one.place) (cond b (record { place = place; slot = slot_of (cells_seen change (seen slot cells)) } ∷ []) [])) [ true ↦ (low, tt) | false ↦ tt ]

entry-ascend : (change : Change) (place : ℕ) (slot : Slot) (cells : List Cell) (others : List Placed) → AllByRecursion (λ (one : Placed). place < one.place) others → IsAscending (map place_of others)
    → IsAscending (map place_of (written_entry change place slot cells ++ others))
entry-ascend change place slot cells others above ascend =
    elim (is_touched change slot cells) as (λ b. IsAscending (map place_of (cond b (record { place = place; slot = slot_of (cells_seen change (seen slot cells)) } ∷ []) [] ++ others))) [
      | true ↦ (all-map place_of (λ (one : Placed). place < one.place) (λ other. place < other) (λ one is. is) others above, ascend)
      | false ↦ ascend
    ]

-- the slot that an entry gives its place, and other places
entry-here : (change : Change) (place : ℕ) (slot : Slot) (cells : List Cell) (others : List Placed) → AllByRecursion (λ (one : Placed). place < one.place) others
    → over place (written_entry change place slot cells ++ others) slot ≡ changed_slot change slot cells
entry-here change place slot cells others above =
    let new = slot_of (cells_seen change (seen slot cells)) in
    elim (is_touched change slot cells) as (λ b. over place (cond b (record { place = place; slot = new } ∷ []) [] ++ others) slot ≡ cond b new slot) [
      | true ↦ ap (λ b. cond b new (over place others slot)) (eq_itself place)
      | false ↦ over-none place others slot above
    ]

entry-other : (change : Change) (place p : ℕ) (slot other : Slot) (cells : List Cell) (others : List Placed) → place < p → over p (written_entry change place slot cells ++ others) other ≡ over p others other
entry-other change place p slot other cells others early =
    let new = slot_of (cells_seen change (seen slot cells)) in
    elim (is_touched change slot cells) as (λ b. over p (cond b (record { place = place; slot = new } ∷ []) [] ++ others) other ≡ over p others other) [
      | true ↦ ap (λ b. cond b new (over p others other)) (not_eq place p early)
      | false ↦ refl
    ]

module _ (change : Change) (carried : List Carried) (version : ℕ) (placed : List Placed) where
  abbrev after : ℕ → List Span → List Placed
  after place spans = written_from change carried version placed place spans

  -- as what a pass makes
  pub changed-made : (place : ℕ) (spans : List Span) → made_from (row_entry change) carried version placed place spans ≡ after place spans
  changed-made place [] = refl
  changed-made place (span ∷ spans) =
      ap (λ (others : List Placed). cond (has_slot carried version span) (written_entry change place (slot_at place placed) span.row) [] ++ others) (changed-made (suc place) spans)

  written-above : (n place : ℕ) (spans : List Span) → n ≤ place → AllByRecursion (λ (one : Placed). n ≤ one.place) (after place spans)
  written-above n place [] low = tt
  written-above n place (span ∷ spans) low =
      let entry = written_entry change place (slot_at place placed) span.row in
      each_append (λ (one : Placed). n ≤ one.place) (cond (has_slot carried version span) entry []) (after (suc place) spans)
      (elim (has_slot carried version span) as (λ b. AllByRecursion (λ (one : Placed). n ≤ one.place) (cond b entry [])) [ true ↦ entry-above change n place (slot_at place placed) span.row low | false ↦ tt ])
      (written-above n (suc place) spans (omega (arith, low)))

  written-behind : (place : ℕ) (spans : List Span) → AllByRecursion (λ (one : Placed). place < one.place) (after (suc place) spans)
  written-behind place spans = all-weaker (λ (one : Placed). suc place ≤ one.place) (λ (one : Placed). place < one.place) (λ one is. omega (arith, is)) (after (suc place) spans) (written-above (suc place) (suc place) spans (omega arith))

  -- their places ascend
  pub written-ascend : (place : ℕ) (spans : List Span) → IsAscending (map place_of (after place spans))
  written-ascend place [] = tt
  written-ascend place (span ∷ spans) =
      let rest = written-ascend (suc place) spans in
      elim (has_slot carried version span) as (λ b. IsAscending (map place_of (cond b (written_entry change place (slot_at place placed) span.row) [] ++ after (suc place) spans))) [
        | true ↦ entry-ascend change place (slot_at place placed) span.row (after (suc place) spans) (written-behind place spans) rest
        | false ↦ rest
      ]

  -- the slots of all rows after the statement
  written-kept : (now : List Placed) (place : ℕ) (spans : List Span) → ((p : ℕ) → place ≤ p → slot_at p now ≡ over p (after place spans) (slot_at p placed))
      → slots_from carried version now place spans ≡ changed_slots change (slots_from carried version placed place spans) (map (row_of unannotated) (slotted_spans carried version spans))
  written-kept now place [] is = refl
  written-kept now place (span ∷ spans) is =
      let slot = slot_at place placed in
      let new = changed_slot change slot span.row in
      let entry = written_entry change place slot span.row in
      let slots = slots_from carried version placed (suc place) spans in
      let rows = slotted_spans carried version spans in
      let others = after (suc place) spans in
      let later : (p : ℕ) → suc place ≤ p → slot_at p now ≡ over p others (slot_at p placed) = λ p late.
      is p (omega (arith, late))
      ∙ elim (has_slot carried version span) as (λ b. over p (cond b entry [] ++ others) (slot_at p placed) ≡ over p others (slot_at p placed)) [ true ↦ entry-other change place p slot (slot_at p placed) span.row others (omega (arith, late)) | false ↦ refl ] in
      let rest : slots_from carried version now (suc place) spans ≡ changed_slots change slots (map (row_of unannotated) rows) = written-kept now (suc place) spans later in
      let here : has_slot carried version span ≡ true → slot_at place now ≡ new = λ has.
      is place (omega arith) ∙ ap (λ b. over place (cond b entry [] ++ others) slot) has ∙ entry-here change place slot span.row others (written-behind place spans) in
      (elim (holds_at version span) as (λ h. ((h && not (is_carried carried span.id)) ≡ true → slot_at place now ≡ new)
      → cond (h && not (is_carried carried span.id)) (slot_at place now ∷ slots_from carried version now (suc place) spans) (slots_from carried version now (suc place) spans)
      ≡ changed_slots change (cond (h && not (is_carried carried span.id)) (slot ∷ slots) slots)
      (map (row_of unannotated) (filter (λ (other : Span). not (is_carried carried other.id)) (cond h (span ∷ spans_at version spans) (spans_at version spans))))) [
        | true ↦ elim (not (is_carried carried span.id)) as (λ q. (q ≡ true → slot_at place now ≡ new)
            → cond q (slot_at place now ∷ slots_from carried version now (suc place) spans) (slots_from carried version now (suc place) spans)
            ≡ changed_slots change (cond q (slot ∷ slots) slots) (map (row_of unannotated) (cond q (span ∷ rows) rows))) [
              | true ↦ λ has i. has refl i ∷ rest i
              | false ↦ λ has. rest
            ]
        | false ↦ λ has. rest
      ]) here

slots-carried : (xs ys : List Carried) (version : ℕ) (placed : List Placed) (place : ℕ) (spans : List Span) → ((id : Identity) → is_carried xs id ≡ is_carried ys id) → slots_from xs version placed place spans ≡ slots_from ys version placed place spans
slots-carried xs ys version placed place [] same = refl
slots-carried xs ys version placed place (span ∷ spans) same =
    let rest = slots-carried xs ys version placed (suc place) spans same in
    λ i. cond (holds_at version span && not (same span.id i)) (slot_at place placed ∷ rest i) (rest i)

pub overlay-changed : (change : Change) (spans : List Span) (writes : TableWrites) → overlay_of spans (changed_table change spans writes) ≡ changed_overlay change (overlay_of spans writes) (rows_below (overlay_of spans writes) spans)
overlay-changed change spans writes =
    let new = written_from change writes.carried writes.version writes.slots 0 spans in
    let now = put_all new writes.slots in
    ap (λ slots. record { version = writes.version; slots = slots; carried = changed_carried change writes.carried; own = changed_own change writes.own })
    (slots-carried (changed_carried change writes.carried) writes.carried writes.version now 0 spans (carried-same change writes.carried)
    ∙ written-kept change writes.carried writes.version writes.slots now 0 spans (λ p low. put-slot p new writes.slots (written-ascend change writes.carried writes.version writes.slots 0 spans))
    ∙ ap (changed_slots change (slots_from writes.carried writes.version writes.slots 0 spans)) (sym (rows-spans writes.carried writes.version spans)))

-- ---- the passes

entry-none : (change : Change) (place : ℕ) (slot : Slot) (cells : List Cell) → passes_in (passes (cond_of change)) slot cells ≡ false → written_entry change place slot cells ≡ []
entry-none change place slot cells none = ap (λ b. cond b (record { place = place; slot = slot_of (cells_seen change (seen slot cells)) } ∷ []) []) (touched-in change slot cells ∙ none)

one-each : {X Y : Type 0} (b : Bool) (x : X) (y : Y) → length (cond b (x ∷ []) []) ≡ length (cond b (y ∷ []) [])
one-each true x y = refl
one-each false x y = refl

entry-length : (change : Change) (place : ℕ) (slot : Slot) (span : Span) → length (row_entry change place slot span) ≡ length (row_touched change slot span)
entry-length change place Same span = one-each (passes (cond_of change) span.row) _ _
entry-length change place (Put now) span = one-each (passes (cond_of change) now) _ _
entry-length change place Dropped span = refl

module _ (change : Change) (carried : List Carried) (v : ℕ) (placed : List Placed) where
  made-length : (place : ℕ) (spans : List Span) → length (made_from (row_entry change) carried v placed place spans) ≡ length (made_from (anywhere (row_touched change)) carried v placed place spans)
  made-length place [] = refl
  made-length place (span ∷ spans) =
      let slot = slot_at place placed in
      let here : length (cond (has_slot carried v span) (row_entry change place slot span) []) ≡ length (cond (has_slot carried v span) (row_touched change slot span) []) =
      elim (has_slot carried v span) as (λ b. length (cond b (row_entry change place slot span) []) ≡ length (cond b (row_touched change slot span) [])) [ true ↦ entry-length change place slot span | false ↦ refl ] in
      length-append (cond (has_slot carried v span) (row_entry change place slot span) []) (made_from (row_entry change) carried v placed (suc place) spans)
      ∙ omega (arith, here, made-length (suc place) spans, length-append (cond (has_slot carried v span) (row_touched change slot span) []) (made_from (anywhere (row_touched change)) carried v placed (suc place) spans))

  -- as many as the rows that the statement writes
  pub written-count : (spans : List Span) → length (written_from change carried v placed 0 spans) ≡ count_touched change (overlaid (slots_from carried v placed 0 spans) (slotted carried (rows_at unannotated v spans)))
  written-count spans =
      ap length (sym (changed-made change carried v placed 0 spans))
      ∙ made-length 0 spans
      ∙ ap length (made-dense (row_touched change) carried v placed 0 spans
      ∙ touched-made change (slots_from carried v placed 0 spans) (slotted_spans carried v spans)
      ∙ ap (λ (rows : List PlainRow). touched change (overlaid (slots_from carried v placed 0 spans) rows)) (sym (rows-spans carried v spans)))

pub changed-places : (change : Change) (carried : List Carried) (v : ℕ) (spans : List Span) (placed : List Placed) (places : List ℕ) → IsEnough (passes (cond_of change)) placed v spans places
    → flat_map (made_of_place (row_entry change) carried v placed spans) places ≡ written_from change carried v placed 0 spans
changed-places change carried v spans placed places enough =
    made-places (row_entry change) carried v placed spans (passes (cond_of change)) places (λ p slot span none. entry-none change p slot span.row none) enough ∙ changed-made change carried v placed 0 spans

-- how many rows the statement writes of all that the transaction sees
pub count-view : (change : Change) (writes : Overlay) (base : List PlainRow) → count_touched change (view_rows writes base)
    ≡ count_touched change (overlaid writes.slots (slotted writes.carried base)) + count_touched change (filter_map carried_row writes.carried) + count_touched change (map own_row writes.own)
count-view change writes base =
    let p : PlainRow → Bool = λ (row : PlainRow). passes (cond_of change) row.cells in
    let slots = overlaid writes.slots (slotted writes.carried base) in
    let rows = filter_map carried_row writes.carried in
    let own = map own_row writes.own in
    let first = ap length (filter-append p slots (rows ++ own)) ∙ length-append (touched change slots) (touched change (rows ++ own)) in
    let second = ap length (filter-append p rows own) ∙ length-append (touched change rows) (touched change own) in
    omega (arith, first, second)

-- ---- rows that the statement does not write

pub own-untouched : (change : Change) (own : List Stored) → count_touched change (map own_row own) ≡ 0 → changed_own change own ≡ own
own-untouched change [] none = refl
own-untouched change (stored ∷ own) none =
    (elim (passes (cond_of change) stored.row) as (λ b. length (cond b (own_row stored ∷ touched change (map own_row own)) (touched change (map own_row own))) ≡ 0
    → cons_option (stored_after (cond b (slot_of (cells_for change stored.row)) Same) stored) (changed_own change own) ≡ stored ∷ own) [
      | true ↦ λ is. absurd (omega (arith, is))
      | false ↦ λ is. ap (λ others. stored ∷ others) (own-untouched change own is)
    ]) none

carried-parts : (change : Change) (row : Carried) (rows : List PlainRow) → length (touched change (cons_option (carried_row row) rows)) ≡ 0 → (passes_seen change row.row ≡ false) × (length (touched change rows) ≡ 0)
carried-parts change row rows none =
    (elim row.row as (λ cells. length (touched change (cons_option (option_map (λ c. record { identity = row.id; cells = c; mark = true; annotation = tt }) cells) rows)) ≡ 0 → (passes_seen change cells ≡ false) × (length (touched change rows) ≡ 0)) [
      | None ↦ λ is. (refl, is)
      | Some cells ↦ elim (passes (cond_of change) cells) as (λ b. length (cond b (record { identity = row.id; cells = cells; mark = true; annotation = tt } ∷ touched change rows) (touched change rows)) ≡ 0 → (b ≡ false) × (length (touched change rows) ≡ 0)) [
        | true ↦ λ is. absurd (omega (arith, is))
        | false ↦ λ is. (refl, is)
      ]
    ]) none

pub carried-untouched : (change : Change) (carried : List Carried) → count_touched change (filter_map carried_row carried) ≡ 0 → changed_carried change carried ≡ carried
carried-untouched change [] none = refl
carried-untouched change (row ∷ carried) none =
    let parts = carried-parts change row (filter_map carried_row carried) none in
    λ i. record { id = row.id; base = row.base; row = cond (parts.0 i) (cells_seen change row.row) row.row } ∷ carried-untouched change carried parts.1 i
