-- What a transaction sees over its writes after an UPDATE, a DELETE or an INSERT.
use Rattle.std.proofs.Common.{◌≡◌, ℕ, ◌+◌, true, false, cond, not, ◌||◌, Option, Some, None, List, [], ◌∷◌, ◌++◌, map, drop, refl, ap, sym, ◌∙◌}
use Rattle.std.specs.List.{cons_option, filter, filter_map}
use Rattle.std.specs.Option.{option_to_list}
use Rattle.std.proofs.lemmas.List.{map-append, append_assoc}
use Rattle.std.proofs.lemmas.List.Elements.{filter-append}
use Rattle.gp_base.specs.declared.cell.Cell.{Cell}
use Rattle.gp_base.specs.declared.stored.Stored.{Stored}
use Rattle.gp_base.specs.Annotated.{unannotated}
use Rattle.gp_base.specs.Identities.{Identity, same_identity}
use Rattle.gp_expr.specs.Values.{passes}
use Rattle.gp_algebra.specs.Effects.{assigned}
use Rattle.gp_algebra.specs.Effects as algebra
use Rattle.gp_versions.specs.declared.span.Span.{Span}
use Rattle.gp_versions.specs.Spans.{row_of}
use Rattle.gp_txn.specs.declared.carried.Carried.{Carried}
use Rattle.gp_txn.specs.declared.overlay.Slot.{Slot}
use Rattle.gp_txn.specs.declared.overlay.Slot.TheVariants.{Same, Put, Dropped}
use Rattle.gp_txn.specs.Changes.{Change, update, delete, cond_of, rows_after, touched}
use Rattle.gp_txn.specs.Overlay.{Overlay, PlainRow, carried_row, is_carried, head_slot, shown, slotted, overlaid, own_row, overlay_of, view_rows}
use Rattle.gp_txn.specs.Slots.{carried_after, changed_carried, changed_overlay, effect, changed_slot, changed_slots, stored_after, changed_own, with_own}
use Rattle.gp_txn.specs.Passes.{row_touched}
use Rattle.gp_txn.specs.declared.overlay.TableWrites.{TableWrites}
use Rattle.gp_txn.proofs.PlacedLemmas.{made_of}

-- ---- UPDATE and DELETE

rows_after-append : (t k : ℕ) (change : Change) (xs ys : List PlainRow) → rows_after unannotated t k change (xs ++ ys) ≡ rows_after unannotated t k change xs ++ rows_after unannotated t k change ys
rows_after-append t k (update sets c) xs ys = map-append (algebra.changed unannotated t k sets c) xs ys
rows_after-append t k (delete c) xs ys = filter-append (λ (r : PlainRow). not (passes c r.cells)) xs ys

rows_after-none : (t k : ℕ) (change : Change) → rows_after unannotated t k change [] ≡ []
rows_after-none t k (update sets c) = refl
rows_after-none t k (delete c) = refl

-- what the transaction sees of a row after the statement
effect-shown : (t k : ℕ) (change : Change) (row : PlainRow) → shown (effect change row.cells) row ≡ rows_after unannotated t k change (row ∷ [])
effect-shown t k (update sets c) row =
    elim (passes c row.cells) as (λ b. shown (cond b (Put (assigned sets row.cells)) Same) row ≡ cond b (record { identity = row.identity; cells = assigned sets row.cells; mark = true; annotation = tt }) row ∷ []) [ true ↦ refl | false ↦ refl ]
effect-shown t k (delete c) row = elim (passes c row.cells) as (λ b. shown (cond b Dropped Same) row ≡ cond (not b) (row ∷ []) []) [ true ↦ refl | false ↦ refl ]

-- a row whose cells the transaction put
abbrev put_row : List Cell → PlainRow → PlainRow
put_row cells row = record { identity = row.identity; cells = cells; mark = true; annotation = tt }

put-shown : (t k : ℕ) (change : Change) (now : List Cell) (row : PlainRow) → shown (changed_slot change (Put now) row.cells) row ≡ rows_after unannotated t k change (put_row now row ∷ [])
put-shown t k (update sets c) now row =
    elim (passes c now) as (λ b. shown (cond b (Put (assigned sets now)) (Put now)) row ≡ cond b (record { identity = row.identity; cells = assigned sets now; mark = true; annotation = tt }) (put_row now row) ∷ []) [ true ↦ refl | false ↦ refl ]
put-shown t k (delete c) now row = elim (passes c now) as (λ b. shown (cond b Dropped (Put now)) row ≡ cond (not b) (put_row now row ∷ []) []) [ true ↦ refl | false ↦ refl ]

shown-changed : (t k : ℕ) (change : Change) (slot : Slot) (row : PlainRow) → shown (changed_slot change slot row.cells) row ≡ rows_after unannotated t k change (shown slot row)
shown-changed t k change Same row = effect-shown t k change row
shown-changed t k change (Put now) row = put-shown t k change now row
shown-changed t k change Dropped row = sym (rows_after-none t k change)

overlaid-changed : (t k : ℕ) (change : Change) (slots : List Slot) (rows : List PlainRow) → overlaid (changed_slots change slots rows) rows ≡ rows_after unannotated t k change (overlaid slots rows)
overlaid-changed t k change slots [] = sym (rows_after-none t k change)
overlaid-changed t k change slots (row ∷ rows) =
    let here = shown-changed t k change (head_slot slots) row in
    let rest = overlaid-changed t k change (drop 1 slots) rows in
    (cc) ∙ sym (rows_after-append t k change (shown (head_slot slots) row) (overlaid (drop 1 slots) rows))

own-after : (effected : Slot) (stored : Stored) (rest : List Stored) → map own_row (cons_option (stored_after effected stored) rest) ≡ shown effected (own_row stored) ++ map own_row rest
own-after Same stored rest = refl
own-after (Put cells) stored rest = refl
own-after Dropped stored rest = refl

own-changed : (t k : ℕ) (change : Change) (own : List Stored) → map own_row (changed_own change own) ≡ rows_after unannotated t k change (map own_row own)
own-changed t k change [] = sym (rows_after-none t k change)
own-changed t k change (stored ∷ own) =
    let here = effect-shown t k change (own_row stored) in
    let rest = own-changed t k change own in
    own-after (effect change stored.row) stored (changed_own change own) ∙ (cc) ∙ sym (rows_after-append t k change (own_row stored ∷ []) (map own_row own))

carried-one : (t k : ℕ) (change : Change) (carried : Carried) (cells : Option (List Cell)) → carried.row ≡ cells
    → option_to_list (carried_row (carried_after change carried)) ≡ rows_after unannotated t k change (option_to_list (carried_row carried))
carried-one t k change carried None is = rw is (sym (rows_after-none t k change))
carried-one t k (update sets c) carried (Some cells) is =
    rw is (elim (passes c cells) as (λ b. option_to_list (carried_row (record { id = carried.id; base = carried.base; row = cond b (Some (assigned sets cells)) (Some cells) }))
    ≡ cond b (record { identity = carried.id; cells = assigned sets cells; mark = true; annotation = tt }) (record { identity = carried.id; cells = cells; mark = true; annotation = tt }) ∷ []) [ true ↦ refl | false ↦ refl ])
carried-one t k (delete c) carried (Some cells) is =
    rw is (elim (passes c cells) as (λ b. option_to_list (carried_row (record { id = carried.id; base = carried.base; row = cond b None (Some cells) }))
    ≡ cond (not b) (record { identity = carried.id; cells = cells; mark = true; annotation = tt } ∷ []) []) [ true ↦ refl | false ↦ refl ])

pub filter_map-one : {X Y : Type 0} (f : X → Option Y) (x : X) (xs : List X) → filter_map f (x ∷ xs) ≡ option_to_list (f x) ++ filter_map f xs
filter_map-one f x xs = elim (f x) as (λ y. cons_option y (filter_map f xs) ≡ option_to_list y ++ filter_map f xs) [ None ↦ refl | Some y ↦ refl ]

carried-changed : (t k : ℕ) (change : Change) (carried : List Carried) → filter_map carried_row (changed_carried change carried) ≡ rows_after unannotated t k change (filter_map carried_row carried)
carried-changed t k change [] = sym (rows_after-none t k change)
carried-changed t k change (row ∷ rows) =
    filter_map-one carried_row (carried_after change row) (changed_carried change rows)
    ∙ (λ i. carried-one t k change row row.row refl i ++ carried-changed t k change rows i)
    ∙ sym (rows_after-append t k change (option_to_list (carried_row row)) (filter_map carried_row rows))
    ∙ ap (rows_after unannotated t k change) (sym (filter_map-one carried_row row rows))

pub carried-same : (change : Change) (carried : List Carried) (id : Identity) → is_carried (changed_carried change carried) id ≡ is_carried carried id
carried-same change [] id = refl
carried-same change (row ∷ rows) id = ap (λ b. same_identity row.id id || b) (carried-same change rows id)

-- a change of carried rows gives a slot to no other row, and takes none away
pub slotted-same : (change : Change) (carried : List Carried) (base : List PlainRow) → slotted (changed_carried change carried) base ≡ slotted carried base
slotted-same change carried base = λ i. filter (λ (row : PlainRow). not (carried-same change carried row.identity i)) base

pub view-changed : (t k : ℕ) (change : Change) (writes : Overlay) (base : List PlainRow)
    → view_rows (changed_overlay change writes base) base ≡ rows_after unannotated t k change (view_rows writes base)
view-changed t k change writes base =
    let slots = overlaid writes.slots (slotted writes.carried base) in
    let rows = filter_map carried_row writes.carried in
    let own = map own_row writes.own in
    (λ i. overlaid (changed_slots change writes.slots (slotted writes.carried base)) (slotted-same change writes.carried base i)
    ++ (filter_map carried_row (changed_carried change writes.carried) ++ map own_row (changed_own change writes.own)))
    ∙ (λ i. overlaid-changed t k change writes.slots (slotted writes.carried base) i ++ (carried-changed t k change writes.carried i ++ own-changed t k change writes.own i))
    ∙ ap (λ others. rows_after unannotated t k change slots ++ others) (sym (rows_after-append t k change rows own))
    ∙ sym (rows_after-append t k change slots (rows ++ own))

-- ---- of all rows with a slot

pub touched-made : (change : Change) (slots : List Slot) (spans : List Span) → made_of (row_touched change) slots spans ≡ touched change (overlaid slots (map (row_of unannotated) spans))
touched-made change slots [] = refl
touched-made change slots (span ∷ spans) =
    ap (λ (rows : List PlainRow). touched change (shown (head_slot slots) (row_of unannotated span)) ++ rows) (touched-made change (drop 1 slots) spans)
    ∙ sym (filter-append (λ (row : PlainRow). passes (cond_of change) row.cells) (shown (head_slot slots) (row_of unannotated span)) (overlaid (drop 1 slots) (map (row_of unannotated) spans)))

-- ---- INSERT

pub view-more : (spans : List Span) (writes : TableWrites) (new : List Stored) (base : List PlainRow) → view_rows (overlay_of spans (with_own new writes)) base ≡ view_rows (overlay_of spans writes) base ++ map own_row new
view-more spans writes new base =
    let slots = overlaid (overlay_of spans writes).slots (slotted writes.carried base) in
    let rows = filter_map carried_row writes.carried in
    let own = map own_row writes.own in
    ap (λ others. slots ++ (rows ++ others)) (map-append own_row writes.own new)
    ∙ ap (λ others. slots ++ others) (sym (append_assoc rows own (map own_row new)))
    ∙ sym (append_assoc slots (rows ++ own) (map own_row new))
