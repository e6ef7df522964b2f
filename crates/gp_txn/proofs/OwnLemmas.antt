-- The identities of the rows that a transaction inserted, and of all rows that it sees.
use Rattle.std.proofs.Common.{◌≡◌, ◌≢◌, ℕ, ◌<◌, ◌≤◌, true, false, not, ◌||◌, List, [], ◌∷◌, ◌++◌, map, drop, Option, Some, None, refl, ap, sym, ◌∙◌, subst, arith}
use Rattle.std.specs.List.{cons_option, filter_map, AllByRecursion}
use Rattle.std.proofs.lemmas.Bool.{or_from, or_parts, false_from_ne_true}
use Rattle.std.proofs.lemmas.List.{map-append}
use Rattle.gp_base.specs.declared.cell.Cell.{Cell}
use Rattle.gp_base.specs.declared.stored.Stored.{Stored}
use Rattle.gp_base.specs.Annotated.{unannotated}
use Rattle.gp_base.specs.Identities.{Identity, same_identity}
use Rattle.gp_base.specs.IdentityParts.{identity_transaction, identity_statement}
use Rattle.gp_versions.specs.declared.span.Span.{Span}
use Rattle.gp_versions.specs.Commits.{AreDistinct, is_written}
use Rattle.gp_versions.specs.Spans.{holds_at, row_of, rows_at, spans_at}
use Rattle.gp_versions.specs.TableSpans.{AreOfDifferentRows, NoOverlap}
use Rattle.gp_versions.proofs.HeldLemmas.{held-differ}
use Rattle.gp_versions.proofs.SameLemmas.{same-exact, same-itself}
use Rattle.gp_txn.specs.declared.carried.Carried.{Carried}
use Rattle.gp_txn.specs.declared.overlay.Slot.{Slot}
use Rattle.gp_txn.specs.declared.overlay.Slot.TheVariants.{Same, Put, Dropped}
use Rattle.gp_txn.specs.Changes.{Change}
use Rattle.gp_txn.specs.declared.overlay.TableWrites.{TableWrites}
use Rattle.gp_txn.specs.Overlay.{PlainRow, carried_row, carried_write, head_slot, is_carried, shown, slotted, overlaid, overlay_of, own_row, own_write, view_rows}
use Rattle.gp_txn.specs.Transactions.{AreCarried, AreOthers, AreOwn, IsOwn, KeepsOwn}
use Rattle.gp_txn.specs.Inserting.{AreNew}
use Rattle.gp_txn.specs.Slots.{changed_carried, changed_own, changed_table, effect, stored_after}
use Rattle.gp_txn.proofs.BaseLemmas.{all-slotted}
use Rattle.gp_txn.proofs.CommitLemmas.{carried-written}
use Rattle.gp_txn.proofs.PairLemmas.{Pairwise, all-filter, all-map, all-weaker, pairwise-append, pairwise-filter}
use Rattle.gp_txn.proofs.DistinctLemmas.{RowsDiffer, IsMade, IsEarlier, inserted-differ}
use Rattle.gp_base.proofs.SmallLemmas.{each_append}

true-false : true ≡ false → ⊥
true-false same = absurd (cc)

-- ---- UPDATE and DELETE keep identities

all-one : (P : Stored → Type 0) (same : (stored : Stored) (other : Stored) → stored.id ≡ other.id → P stored → P other) (slot : Slot) (stored : Stored) (rest : List Stored) → P stored → AllByRecursion P rest → AllByRecursion P (cons_option (stored_after slot stored) rest)
all-one P same Same stored rest mine all = (mine, all)
all-one P same (Put cells) stored rest mine all = (same stored (record { id = stored.id; row = cells }) refl mine, all)
all-one P same Dropped stored rest mine all = all

own-moves : (t last : ℕ) (stored other : Stored) → stored.id ≡ other.id → IsOwn t last stored → IsOwn t last other
own-moves t last stored other same mine = (ap identity_transaction (sym same) ∙ mine.0, subst (λ id. identity_statement id ≤ last) same mine.1)

all-own : (t last : ℕ) (change : Change) (own : List Stored) → AllByRecursion (IsOwn t last) own → AllByRecursion (IsOwn t last) (changed_own change own)
all-own t last change [] all = tt
all-own t last change (stored ∷ own) all = all-one (IsOwn t last) (own-moves t last) (effect change stored.row) stored (changed_own change own) all.0 (all-own t last change own all.1)

none-one : (slot : Slot) (stored : Stored) (rest : List Stored) (id : Identity) → same_identity stored.id id ≡ false → is_written (map own_write rest) id ≡ false → is_written (map own_write (cons_option (stored_after slot stored) rest)) id ≡ false
none-one Same stored rest id other none = or_from (same_identity stored.id id) (is_written (map own_write rest) id) other none
none-one (Put cells) stored rest id other none = or_from (same_identity stored.id id) (is_written (map own_write rest) id) other none
none-one Dropped stored rest id other none = none

none-own : (change : Change) (own : List Stored) (id : Identity) → is_written (map own_write own) id ≡ false → is_written (map own_write (changed_own change own)) id ≡ false
none-own change [] id none = refl
none-own change (stored ∷ own) id none =
    let parts = or_parts (same_identity stored.id id) (is_written (map own_write own) id) none in
    none-one (effect change stored.row) stored (changed_own change own) id parts.0 (none-own change own id parts.1)

distinct-one : (slot : Slot) (stored : Stored) (rest : List Stored) → is_written (map own_write rest) stored.id ≡ false → AreDistinct (map own_write rest) → AreDistinct (map own_write (cons_option (stored_after slot stored) rest))
distinct-one Same stored rest none distinct = (none, distinct)
distinct-one (Put cells) stored rest none distinct = (none, distinct)
distinct-one Dropped stored rest none distinct = distinct

distinct-own : (change : Change) (own : List Stored) → AreDistinct (map own_write own) → AreDistinct (map own_write (changed_own change own))
distinct-own change [] distinct = tt
distinct-own change (stored ∷ own) distinct = distinct-one (effect change stored.row) stored (changed_own change own) (none-own change own stored.id distinct.0) (distinct-own change own distinct.1)

-- ---- the rows that are carried over

all-after : (t : ℕ) (change : Change) (carried : List Carried) → AllByRecursion (λ (row : Carried). identity_transaction row.id ≢ t) carried → AllByRecursion (λ (row : Carried). identity_transaction row.id ≢ t) (changed_carried change carried)
all-after t change [] all = tt
all-after t change (row ∷ rows) all = (all.0, all-after t change rows all.1)

same-carried : (change : Change) (carried : List Carried) (id : Identity) → is_written (map carried_write (changed_carried change carried)) id ≡ is_written (map carried_write carried) id
same-carried change [] id = refl
same-carried change (row ∷ rows) id = ap (λ b. same_identity row.id id || b) (same-carried change rows id)

distinct-after : (change : Change) (carried : List Carried) → AreDistinct (map carried_write carried) → AreDistinct (map carried_write (changed_carried change carried))
distinct-after change [] distinct = tt
distinct-after change (row ∷ rows) distinct = (same-carried change rows row.id ∙ distinct.0, distinct-after change rows distinct.1)

pub carried-after : (t : ℕ) (change : Change) (carried : List Carried) → AreCarried t carried → AreCarried t (changed_carried change carried)
carried-after t change carried mine = (all-after t change carried mine.0, distinct-after change carried mine.1)

-- up to a later statement
pub own-later : (t last k : ℕ) (own : List Stored) → last ≤ k → AreOwn t last own → AreOwn t k own
own-later t last k own later mine = (all-weaker (IsOwn t last) (IsOwn t k) (λ stored is. (is.0, omega (arith, later, is.1))) own mine.0, mine.1)

pub own-changed : (t last k : ℕ) (change : Change) (own : List Stored) → last ≤ k → AreOwn t last own → AreOwn t k (changed_own change own)
own-changed t last k change own later mine = own-later t last k (changed_own change own) later (all-own t last change own mine.0, distinct-own change own mine.1)

pub keeps-changed : (t last k : ℕ) (change : Change) (spans : List Span) (writes : TableWrites) → last ≤ k → KeepsOwn t last writes → KeepsOwn t k (changed_table change spans writes)
keeps-changed t last k change spans writes later keeps = record { own = own-changed t last k change writes.own later keeps.own; carried = carried-after t change writes.carried keeps.carried }

-- ---- from tests to facts, and back

apart-rows : (id : Identity) (own : List Stored) → is_written (map own_write own) id ≡ false → AllByRecursion (λ (row : PlainRow). id ≢ row.identity) (map own_row own)
apart-rows id [] none = tt
apart-rows id (stored ∷ own) none =
    let parts = or_parts (same_identity stored.id id) (is_written (map own_write own) id) none in
    (λ same. absurd (true-false (sym (subst (λ other. same_identity stored.id other ≡ true) (sym same) (same-itself stored.id)) ∙ parts.0)), apart-rows id own parts.1)

pub distinct-rows : (own : List Stored) → AreDistinct (map own_write own) → Pairwise RowsDiffer (map own_row own)
distinct-rows [] distinct = tt
distinct-rows (stored ∷ own) distinct = (apart-rows stored.id own distinct.0, distinct-rows own distinct.1)

none-written : (id : Identity) (own : List Stored) → AllByRecursion (λ (row : PlainRow). id ≢ row.identity) (map own_row own) → is_written (map own_write own) id ≡ false
none-written id [] all = refl
none-written id (stored ∷ own) all =
    or_from (same_identity stored.id id) (is_written (map own_write own) id)
    (false_from_ne_true (same_identity stored.id id) (λ same. all.0 (sym (same-exact stored.id id same)))) (none-written id own all.1)

pub rows-distinct : (own : List Stored) → Pairwise RowsDiffer (map own_row own) → AreDistinct (map own_write own)
rows-distinct [] differ = tt
rows-distinct (stored ∷ own) differ = (none-written stored.id own differ.0, rows-distinct own differ.1)

-- ---- INSERT

own-made : (t k : ℕ) (new : List Stored) → AllByRecursion (IsMade unannotated t k) (map own_row new) → AllByRecursion (λ (stored : Stored). (identity_transaction stored.id ≡ t) × (identity_statement stored.id ≡ k)) new
own-made t k [] all = tt
own-made t k (stored ∷ new) all = (all.0, own-made t k new all.1)

pub new-rows : (t k : ℕ) (new : List Stored) → Pairwise RowsDiffer (map own_row new) → AllByRecursion (IsMade unannotated t k) (map own_row new) → AreNew t k new
new-rows t k new differ all = (own-made t k new all, rows-distinct new differ)

own-earlier : (t last k : ℕ) (own : List Stored) → last < k → AllByRecursion (IsOwn t last) own → AllByRecursion (IsEarlier unannotated t k) (map own_row own)
own-earlier t last k own later all = all-map own_row (IsOwn t last) (IsEarlier unannotated t k) (λ stored is mine. omega (arith, later, is.1)) own all

-- the new rows are the transaction's own, and others than those before
pub own-inserted : (t last k : ℕ) (own new : List Stored) → last < k → AreOwn t last own → AreNew t k new → AreOwn t k (own ++ new)
own-inserted t last k own new later mine made = (
  each_append (IsOwn t k) own new (all-weaker (IsOwn t last) (IsOwn t k) (λ stored is. (is.0, omega (arith, later, is.1))) own mine.0)
      (all-weaker (λ (stored : Stored). (identity_transaction stored.id ≡ t) × (identity_statement stored.id ≡ k)) (IsOwn t k) (λ stored is. (is.0, omega (arith, is.1))) new made.0),
  rows-distinct (own ++ new)
      (rw (map-append own_row own new) (inserted-differ unannotated t k (map own_row own) (map own_row new) (distinct-rows own mine.1) (own-earlier t last k own later mine.0) (distinct-rows new made.1)
      (all-map own_row (λ (stored : Stored). (identity_transaction stored.id ≡ t) × (identity_statement stored.id ≡ k)) (IsMade unannotated t k) (λ stored is. is) new made.0))),
)

-- ---- all rows that a transaction sees

-- a row of the snapshot is seen under its identity
all-shown : (P : Identity → Type 0) (slot : Slot) (row : PlainRow) → P row.identity → AllByRecursion (λ (seen : PlainRow). P seen.identity) (shown slot row)
all-shown P Same row is = (is, tt)
all-shown P (Put cells) row is = (is, tt)
all-shown P Dropped row is = tt

all-overlaid : (P : Identity → Type 0) (slots : List Slot) (base : List PlainRow) → AllByRecursion (λ (row : PlainRow). P row.identity) base → AllByRecursion (λ (row : PlainRow). P row.identity) (overlaid slots base)
all-overlaid P slots [] all = tt
all-overlaid P slots (row ∷ base) all = each_append (λ (seen : PlainRow). P seen.identity) (shown (head_slot slots) row) (overlaid (drop 1 slots) base) (all-shown P (head_slot slots) row all.0) (all-overlaid P (drop 1 slots) base all.1)

shown-differ : (slot : Slot) (row : PlainRow) (others : List PlainRow) → AllByRecursion (λ (other : PlainRow). row.identity ≢ other.identity) others → Pairwise RowsDiffer others → Pairwise RowsDiffer (shown slot row ++ others)
shown-differ Same row others apart differ = (apart, differ)
shown-differ (Put cells) row others apart differ = (apart, differ)
shown-differ Dropped row others apart differ = differ

overlaid-differ : (slots : List Slot) (base : List PlainRow) → Pairwise RowsDiffer base → Pairwise RowsDiffer (overlaid slots base)
overlaid-differ slots [] differ = tt
overlaid-differ slots (row ∷ base) differ =
    shown-differ (head_slot slots) row (overlaid (drop 1 slots) base) (all-overlaid (λ id. row.identity ≢ id) (drop 1 slots) base differ.0) (overlaid-differ (drop 1 slots) base differ.1)

apart-spans : (id : Identity) (spans : List Span) → AllByRecursion (λ (other : Span). same_identity id other.id ≡ false) spans → AllByRecursion (λ (row : PlainRow). id ≢ row.identity) (map (row_of unannotated) spans)
apart-spans id [] all = tt
apart-spans id (span ∷ spans) all = (
  λ same. absurd (true-false (sym (subst (λ other. same_identity id other ≡ true) same (same-itself id)) ∙ all.0)),
  apart-spans id spans all.1,
)

spans-differ : (spans : List Span) → AreOfDifferentRows spans → Pairwise RowsDiffer (map (row_of unannotated) spans)
spans-differ [] differ = tt
spans-differ (span ∷ spans) differ = (apart-spans span.id spans differ.0, spans-differ spans differ.1)

others-rows : (t v : ℕ) (spans : List Span) → AreOthers t spans → AllByRecursion (λ (row : PlainRow). identity_transaction row.identity ≢ t) (rows_at unannotated v spans)
others-rows t v spans others =
    all-map (row_of unannotated) (λ (span : Span). identity_transaction span.id ≢ t) (λ (row : PlainRow). identity_transaction row.identity ≢ t) (λ span is. is) (spans_at v spans)
    (all-filter (λ (span : Span). identity_transaction span.id ≢ t) (holds_at v) spans others)

other-apart : (t last : ℕ) (row : PlainRow) (own : List Stored) → identity_transaction row.identity ≢ t → AllByRecursion (IsOwn t last) own → AllByRecursion (RowsDiffer row) (map own_row own)
other-apart t last row own other all = all-map own_row (IsOwn t last) (RowsDiffer row) (λ stored is same. other (ap identity_transaction same ∙ is.0)) own all

carried-apart-one : (P : Identity → Type 0) (row : Carried) (cells : Option (List Cell)) (others : List PlainRow) → row.row ≡ cells → P row.id → AllByRecursion (λ (other : PlainRow). P other.identity) others
    → AllByRecursion (λ (other : PlainRow). P other.identity) (cons_option (carried_row row) others)
carried-apart-one P row None others is this all = rw is all
carried-apart-one P row (Some cells) others is this all = rw is (this, all)

-- what holds of the identities of the rows that are carried over holds of those that are seen
all-carried : (P : Identity → Type 0) (carried : List Carried) → AllByRecursion (λ (row : Carried). P row.id) carried → AllByRecursion (λ (row : PlainRow). P row.identity) (filter_map carried_row carried)
all-carried P [] all = tt
all-carried P (row ∷ rows) all = carried-apart-one P row row.row (filter_map carried_row rows) refl all.0 (all-carried P rows all.1)

others-apart : (id : Identity) (carried : List Carried) → is_written (map carried_write carried) id ≡ false → AllByRecursion (λ (row : Carried). id ≢ row.id) carried
others-apart id [] none = tt
others-apart id (row ∷ rows) none =
    let parts = or_parts (same_identity row.id id) (is_written (map carried_write rows) id) none in
    (λ same. absurd (true-false (sym (subst (λ other. same_identity row.id other ≡ true) (sym same) (same-itself row.id)) ∙ parts.0)), others-apart id rows parts.1)

carried-differ-one : (row : Carried) (cells : Option (List Cell)) (others : List PlainRow) → row.row ≡ cells → AllByRecursion (λ (other : PlainRow). row.id ≢ other.identity) others → Pairwise RowsDiffer others
    → Pairwise RowsDiffer (cons_option (carried_row row) others)
carried-differ-one row None others is apart differ = rw is differ
carried-differ-one row (Some cells) others is apart differ = rw is (apart, differ)

carried-differ : (carried : List Carried) → AreDistinct (map carried_write carried) → Pairwise RowsDiffer (filter_map carried_row carried)
carried-differ [] distinct = tt
carried-differ (row ∷ rows) distinct =
    carried-differ-one row row.row (filter_map carried_row rows) refl (all-carried (λ id. row.id ≢ id) rows (others-apart row.id rows distinct.0)) (carried-differ rows distinct.1)

all-both : (slots rows own : List PlainRow) → AllByRecursion (λ row. AllByRecursion (RowsDiffer row) rows) slots → AllByRecursion (λ row. AllByRecursion (RowsDiffer row) own) slots
    → AllByRecursion (λ row. AllByRecursion (RowsDiffer row) (rows ++ own)) slots
all-both [] rows own left right = tt
all-both (row ∷ slots) rows own left right = (each_append (RowsDiffer row) rows own left.0 right.0, all-both slots rows own left.1 right.1)

-- a row with a slot is none of those that are carried over
slot-apart : (carried : List Carried) (id : Identity) → is_carried carried id ≡ false → AllByRecursion (λ (row : Carried). id ≢ row.id) carried
slot-apart carried id none = others-apart id carried (carried-written carried id ∙ none)

-- no two rows of a table are of one identity
pub view-differ : (t last : ℕ) (writes : TableWrites) (v : ℕ) (spans : List Span) → NoOverlap spans → AreOthers t spans → KeepsOwn t last writes → Pairwise RowsDiffer (view_rows (overlay_of spans writes) (rows_at unannotated v spans))
view-differ t last writes v spans apart others keeps =
    let base = slotted writes.carried (rows_at unannotated v spans) in
    let slots = overlaid (overlay_of spans writes).slots base in
    let rows = filter_map carried_row writes.carried in
    let own = map own_row writes.own in
    let differ = pairwise-filter RowsDiffer (λ (row : PlainRow). not (is_carried writes.carried row.identity)) (rows_at unannotated v spans) (spans-differ (spans_at v spans) (held-differ v spans apart)) in
    let other = all-filter (λ (row : PlainRow). identity_transaction row.identity ≢ t) (λ (row : PlainRow). not (is_carried writes.carried row.identity)) (rows_at unannotated v spans) (others-rows t v spans others) in
    let uncarried = all-overlaid (λ id. is_carried writes.carried id ≡ false) (overlay_of spans writes).slots base (all-slotted writes.carried (rows_at unannotated v spans)) in
    let behind = pairwise-append RowsDiffer rows own (carried-differ writes.carried keeps.carried.1) (distinct-rows writes.own keeps.own.1)
    (all-weaker (λ (row : PlainRow). identity_transaction row.identity ≢ t) (λ row. AllByRecursion (RowsDiffer row) own) (λ row is. other-apart t last row writes.own is keeps.own.0) rows
    (all-carried (λ id. identity_transaction id ≢ t) writes.carried keeps.carried.0)) in
    let across = all-weaker (λ (row : PlainRow). is_carried writes.carried row.identity ≡ false) (λ row. AllByRecursion (RowsDiffer row) rows)
    (λ row none. all-carried (λ id. row.identity ≢ id) writes.carried (slot-apart writes.carried row.identity none)) slots uncarried in
    let across_own = all-weaker (λ (row : PlainRow). identity_transaction row.identity ≢ t) (λ row. AllByRecursion (RowsDiffer row) own) (λ row is. other-apart t last row writes.own is keeps.own.0) slots
    (all-overlaid (λ id. identity_transaction id ≢ t) (overlay_of spans writes).slots base other) in
    pairwise-append RowsDiffer slots (rows ++ own) (overlaid-differ (overlay_of spans writes).slots base differ) behind (all-both slots rows own across across_own)
