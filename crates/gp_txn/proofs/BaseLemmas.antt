-- The bases of the rows that a transaction has written.
use Rattle.std.proofs.Common.{◌≡◌, ◌≢◌, ℕ, Bool, true, false, cond, not, ◌||◌, List, [], ◌∷◌, ◌++◌, map, drop, Option, Some, None, refl, ap, sym, ◌∙◌, subst}
use Rattle.std.specs.List.{cons_option, filter_map, AllByRecursion}
use Rattle.std.specs.Option.{is_none}
use Rattle.std.proofs.lemmas.Bool.{false≢true, or_from, or_parts, not-true}
use Rattle.std.proofs.lemmas.List.Folds.{list_any-append}
use Rattle.gp_base.specs.declared.cell.Cell.{Cell}
use Rattle.gp_base.specs.Identities.{Identity, same_identity}
use Rattle.gp_base.specs.IdentityParts.{identity_transaction}
use Rattle.gp_expr.specs.Values.{passes}
use Rattle.gp_versions.specs.declared.span.Write.{Write}
use Rattle.gp_versions.specs.Commits.{is_written}
use Rattle.gp_versions.proofs.SameLemmas.{same-exact}
use Rattle.gp_txn.specs.declared.carried.Carried.{Carried}
use Rattle.gp_txn.specs.declared.overlay.Slot.{Slot}
use Rattle.gp_txn.specs.declared.overlay.Slot.TheVariants.{Same, Put, Dropped}
use Rattle.gp_txn.specs.Bases.{base_after, base_of, carried_base}
use Rattle.gp_txn.specs.Changes.{Change, cond_of, touched}
use Rattle.gp_txn.specs.Overlay.{Overlay, PlainRow, base_writes, carried_row, carried_write, head_slot, is_carried, own_row, own_write, overlaid, slot_write, slot_writes, slotted, table_writes, view_rows}
use Rattle.gp_txn.specs.Slots.{changed_carried, changed_slots, changed_overlay}
use Rattle.gp_txn.proofs.CommitLemmas.{AreMadeBy, carried-written, own-unwritten}
use Rattle.gp_txn.proofs.OverlayLemmas.{slotted-same}
use Rattle.gp_txn.proofs.WrittenLemmas.{all-touched, has_identity, own-rows, own-identity, touched-append, written-changed}
use Rattle.gp_base.proofs.SmallLemmas.{or_nothing}

-- ---- rows that are carried over

-- what holds of the identities of rows holds of each one that was written
module _ (P : Identity → Type 0) where
  written-head : (same : Bool) (id other : Identity) (rest : Bool) → same_identity other id ≡ same → P other → (rest ≡ true → P id) → (same || rest) ≡ true → P id
  written-head true id other rest is this others written = subst P (same-exact other id is) this
  written-head false id other rest is this others written = others written

  written-slot : (slot : Slot) (row : PlainRow) (rest : List Write) (id : Identity) → P row.identity → (is_written rest id ≡ true → P id) → is_written (cons_option (slot_write slot row) rest) id ≡ true → P id
  written-slot Same row rest id this others written = others written
  written-slot (Put cells) row rest id this others written = written-head (same_identity row.identity id) id row.identity (is_written rest id) refl this others written
  written-slot Dropped row rest id this others written = written-head (same_identity row.identity id) id row.identity (is_written rest id) refl this others written

  written-in : (slots : List Slot) (rows : List PlainRow) (id : Identity) → AllByRecursion (λ (row : PlainRow). P row.identity) rows → is_written (base_writes slots rows) id ≡ true → P id
  written-in slots [] id all written = absurd (false≢true written)
  written-in slots (row ∷ rows) id all written =
      written-slot (head_slot slots) row (base_writes (drop 1 slots) rows) id all.0 (written-in (drop 1 slots) rows id all.1) written

pub all-slotted : (carried : List Carried) (base : List PlainRow) → AllByRecursion (λ (row : PlainRow). is_carried carried row.identity ≡ false) (slotted carried base)
all-slotted carried [] = tt
all-slotted carried (row ∷ base) =
    elim (is_carried carried row.identity) as (λ b. is_carried carried row.identity ≡ b → AllByRecursion (λ (other : PlainRow). is_carried carried other.identity ≡ false) (cond (not b) (row ∷ slotted carried base) (slotted carried base))) [
      | true ↦ λ is. all-slotted carried base
      | false ↦ λ is. (is, all-slotted carried base)
    ] refl

-- a row with a slot is not carried over
pub written-uncarried : (writes : Overlay) (base : List PlainRow) (id : Identity) → is_written (slot_writes writes base) id ≡ true → is_carried writes.carried id ≡ false
written-uncarried writes base id written =
    written-in (λ other. is_carried writes.carried other ≡ false) writes.slots (slotted writes.carried base) id (all-slotted writes.carried base) written

-- a row has a base among those that are carried over where it is one of them
pub carried-some : (carried : List Carried) (id : Identity) → is_none (carried_base carried id) ≡ not (is_carried carried id)
carried-some [] id = refl
carried-some (row ∷ rows) id =
    elim (same_identity row.id id) as (λ b. is_none (cond b (Some row.base) (carried_base rows id)) ≡ not (b || is_carried rows id)) [ true ↦ refl | false ↦ carried-some rows id ]

none-is : (base : Option ℕ) → is_none base ≡ true → base ≡ None
none-is None is = refl
none-is (Some version) is = absurd (false≢true is)

pub carried-none : (carried : List Carried) (id : Identity) → is_carried carried id ≡ false → carried_base carried id ≡ None
carried-none carried id is = none-is (carried_base carried id) (carried-some carried id ∙ ap not is)

-- ---- whether a row was written

none-after : (version : ℕ) (wrote : Bool) (base : Option ℕ) → is_none (base_after version wrote base) ≡ not (wrote || not (is_none base))
none-after version true None = refl
none-after version false None = refl
none-after version true (Some base) = refl
none-after version false (Some base) = refl

not-not : (b : Bool) → not (not b) ≡ b
not-not true = refl
not-not false = refl

-- it has a base where it was written over the version below, or is carried over
pub base-none : (writes : Overlay) (base : List PlainRow) (id : Identity) → is_none (base_of writes base id) ≡ not (is_written (slot_writes writes base) id || is_carried writes.carried id)
base-none writes base id =
    none-after writes.version (is_written (slot_writes writes base) id) (carried_base writes.carried id)
    ∙ ap (λ b. not (is_written (slot_writes writes base) id || b)) (ap not (carried-some writes.carried id) ∙ not-not (is_carried writes.carried id))

-- the rows of others that a commit writes
pub table-written : (writes : Overlay) (base : List PlainRow) (t : ℕ) (id : Identity) → identity_transaction id ≢ t → AreMadeBy t writes.own
    → is_written (table_writes writes base) id ≡ (is_written (slot_writes writes base) id || is_carried writes.carried id)
table-written writes base t id other made =
    let list = slot_writes writes base in
    let rows = map carried_write writes.carried in
    let own = map own_write writes.own in
    list_any-append (λ (write : Write). same_identity write.id id) list (rows ++ own)
    ∙ ap (λ b. is_written list id || b)
    (list_any-append (λ (write : Write). same_identity write.id id) rows own
    ∙ (λ i. carried-written writes.carried id i || own-unwritten t id writes.own other made i)
    ∙ or_nothing (is_carried writes.carried id))

-- ---- UPDATE and DELETE

carried_base-changed : (change : Change) (carried : List Carried) (id : Identity) → carried_base (changed_carried change carried) id ≡ carried_base carried id
carried_base-changed change [] id = refl
carried_base-changed change (row ∷ rows) id = ap (λ rest. cond (same_identity row.id id) (Some row.base) rest) (carried_base-changed change rows id)

carried-row-one : (id : Identity) (row : Carried) (cells : Option (List Cell)) (others : List PlainRow) → row.row ≡ cells → same_identity row.id id ≡ false → has_identity others id ≡ false
    → has_identity (cons_option (carried_row row) others) id ≡ false
carried-row-one id row None others is other rest = rw is rest
carried-row-one id row (Some cells) others is other rest = rw is (or_from (same_identity row.id id) (has_identity others id) other rest)

-- no row that is carried over has another identity
carried-rows : (carried : List Carried) (id : Identity) → is_carried carried id ≡ false → has_identity (filter_map carried_row carried) id ≡ false
carried-rows [] id none = refl
carried-rows (row ∷ rows) id none =
    let parts = or_parts (same_identity row.id id) (is_carried rows id) none in
    carried-row-one id row row.row (filter_map carried_row rows) refl parts.0 (carried-rows rows id parts.1)

touched-one : (b : Bool) (row : PlainRow) (rows : List PlainRow) (id : Identity) → same_identity row.identity id ≡ false → has_identity rows id ≡ false → has_identity (cond b (row ∷ rows) rows) id ≡ false
touched-one true row rows id other none = or_from (same_identity row.identity id) (has_identity rows id) other none
touched-one false row rows id other none = none

none-touched : (change : Change) (rows : List PlainRow) (id : Identity) → has_identity rows id ≡ false → has_identity (touched change rows) id ≡ false
none-touched change [] id none = refl
none-touched change (row ∷ rows) id none =
    let parts = or_parts (same_identity row.identity id) (has_identity rows id) none in
    touched-one (passes (cond_of change) row.cells) row (touched change rows) id parts.0 (none-touched change rows id parts.1)

-- the identities that an UPDATE or a DELETE writes of others
pub view-touched : (t : ℕ) (change : Change) (writes : Overlay) (base : List PlainRow) (id : Identity) → identity_transaction id ≢ t → AreMadeBy t writes.own
    → has_identity (touched change (view_rows writes base)) id
    ≡ (has_identity (touched change (overlaid writes.slots (slotted writes.carried base))) id || has_identity (touched change (filter_map carried_row writes.carried)) id)
view-touched t change writes base id other made =
    let slots = overlaid writes.slots (slotted writes.carried base) in
    let rows = filter_map carried_row writes.carried in
    let own = map own_row writes.own in
    touched-append change slots (rows ++ own) id
    ∙ ap (λ b. has_identity (touched change slots) id || b)
    (touched-append change rows own id
    ∙ ap (λ b. has_identity (touched change rows) id || b) (own-identity t (touched change own) id other (all-touched (λ (row : PlainRow). identity_transaction row.identity ≡ t) change own (own-rows t writes.own made)))
    ∙ or_nothing (has_identity (touched change rows) id))

base-new : (version : ℕ) (old new rows : Bool) → rows ≡ false → base_after version (old || new) None ≡ base_after version (new || rows) (base_after version old None)
base-new version true true rows none = refl
base-new version true false rows none = refl
base-new version false true rows none = refl
base-new version false false rows none = rw none refl

-- a row that is carried over keeps its base
base-kept : (version : ℕ) (old new rows : Bool) (carried : List Carried) (id : Identity) → (is_carried carried id ≡ false → rows ≡ false) → (base : Option ℕ) → carried_base carried id ≡ base
    → base_after version (old || new) base ≡ base_after version (new || rows) (base_after version old base)
base-kept version old new rows carried id uncarried (Some base) is = refl
base-kept version old new rows carried id uncarried None is =
    base-new version old new rows (uncarried (not-true (is_carried carried id) (sym (carried-some carried id) ∙ ap is_none is)))

pub base-changed : (t : ℕ) (change : Change) (writes : Overlay) (base : List PlainRow) (id : Identity) → identity_transaction id ≢ t → AreMadeBy t writes.own
    → base_of (changed_overlay change writes base) base id ≡ base_after writes.version (has_identity (touched change (view_rows writes base)) id) (base_of writes base id)
base-changed t change writes base id other made =
    let slots = slotted writes.carried base in
    let old = is_written (slot_writes writes base) id in
    let new = has_identity (touched change (overlaid writes.slots slots)) id in
    let rows = has_identity (touched change (filter_map carried_row writes.carried)) id in
    (λ i. base_after writes.version (is_written (base_writes (changed_slots change writes.slots slots) (slotted-same change writes.carried base i)) id) (carried_base-changed change writes.carried id i))
    ∙ ap (λ b. base_after writes.version b (carried_base writes.carried id)) (written-changed change writes.slots slots id)
    ∙ base-kept writes.version old new rows writes.carried id (λ none. none-touched change (filter_map carried_row writes.carried) id (carried-rows writes.carried id none)) (carried_base writes.carried id) refl
    ∙ ap (λ b. base_after writes.version b (base_of writes base id)) (sym (view-touched t change writes base id other made))
