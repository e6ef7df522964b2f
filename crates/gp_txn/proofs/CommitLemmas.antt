-- The writes of a commit: of different identities, and with the rows that the transaction wrote and sees.
use Rattle.std.proofs.Common.{◌≡◌, ◌≢◌, ℕ, ◌+◌, true, false, cond, not, ◌||◌, List, [], ◌∷◌, ◌++◌, map, drop, refl, ap, sym, ◌∙◌, subst}
use Rattle.std.specs.List.{cons_option, filter, AllByRecursion}
use Rattle.std.proofs.lemmas.Bool.{or_from, or_parts, false_from_ne_true}
use Rattle.std.proofs.lemmas.List.{map-append}
use Rattle.gp_base.specs.declared.stored.Stored.{Stored}
use Rattle.gp_base.specs.Annotated.{Annotated, unannotated}
use Rattle.gp_base.specs.Identities.{Identity, same_identity}
use Rattle.gp_base.specs.IdentityParts.{identity_transaction}
use Rattle.gp_versions.specs.declared.span.Span.{Span}
use Rattle.gp_versions.specs.declared.span.Write.{Write}
use Rattle.gp_versions.specs.Commits.{AreDistinct, is_written}
use Rattle.gp_versions.specs.Spans.{holds_at, row_of, spans_at}
use Rattle.gp_versions.specs.TableSpans.{AreOfDifferentRows, NoOverlap}
use Rattle.gp_versions.proofs.HeldLemmas.{held-differ}
use Rattle.gp_versions.proofs.SameLemmas.{same-exact, same-sym}
use Rattle.gp_txn.specs.declared.carried.Carried.{Carried}
use Rattle.gp_txn.specs.declared.overlay.Slot.{Slot}
use Rattle.gp_txn.specs.declared.overlay.Slot.TheVariants.{Same, Put, Dropped}
use Rattle.gp_txn.specs.declared.overlay.TableWrites.{TableWrites}
use Rattle.gp_txn.specs.Overlay.{Overlay, base_writes, carried_write, head_slot, is_carried, overlay_of, own_write, rows_below, slot_write, slot_writes, slotted_spans, table_writes}
use Rattle.gp_txn.specs.Prepared.{AreInserted, AreWritesOf}
use Rattle.gp_txn.specs.Rebasing.{carried_of, carried_over}
use Rattle.gp_txn.specs.Transactions.{AreCarried, AreOthers, AreOwn, IsOwn, KeepsOwn}
use Rattle.gp_txn.proofs.PairLemmas.{all-filter, all-map}
use Rattle.gp_txn.proofs.SlottedLemmas.{rows-spans}
use Rattle.gp_base.proofs.SmallLemmas.{each_append}

-- ---- the writes of a table are of different identities

not-same : (id other : Identity) → same_identity id other ≡ false → same_identity other id ≡ false
not-same id other differ = false_from_ne_true (same_identity other id) (λ same. absurd (false-true (sym differ ∙ same-sym other id same)))
  where
    false-true : false ≡ true → ⊥
    false-true e = cc

unwritten-cons : (id : Identity) (slot : Slot) (span : Span) (rest : List Write) → same_identity span.id id ≡ false → is_written rest id ≡ false → is_written (cons_option (slot_write slot (row_of unannotated span)) rest) id ≡ false
unwritten-cons id Same span rest other none = none
unwritten-cons id (Put cells) span rest other none = or_from (same_identity span.id id) (is_written rest id) other none
unwritten-cons id Dropped span rest other none = or_from (same_identity span.id id) (is_written rest id) other none

-- an identity of none of the rows is not written
unwritten : (id : Identity) (slots : List Slot) (spans : List Span) → AllByRecursion (λ (span : Span). same_identity id span.id ≡ false) spans → is_written (base_writes slots (map (row_of unannotated) spans)) id ≡ false
unwritten id slots [] all = refl
unwritten id slots (span ∷ spans) all =
    unwritten-cons id (head_slot slots) span (base_writes (drop 1 slots) (map (row_of unannotated) spans)) (not-same id span.id all.0) (unwritten id (drop 1 slots) spans all.1)

distinct-cons : (slot : Slot) (span : Span) (rest : List Write) → is_written rest span.id ≡ false → AreDistinct rest → AreDistinct (cons_option (slot_write slot (row_of unannotated span)) rest)
distinct-cons Same span rest none distinct = distinct
distinct-cons (Put cells) span rest none distinct = (none, distinct)
distinct-cons Dropped span rest none distinct = (none, distinct)

distinct-base : (slots : List Slot) (spans : List Span) → AreOfDifferentRows spans → AreDistinct (base_writes slots (map (row_of unannotated) spans))
distinct-base slots [] all = tt
distinct-base slots (span ∷ spans) all =
    distinct-cons (head_slot slots) span (base_writes (drop 1 slots) (map (row_of unannotated) spans)) (unwritten span.id (drop 1 slots) spans all.0) (distinct-base (drop 1 slots) spans all.1)

abbrev pub AreMadeBy : ℕ → List Stored → Type 0
AreMadeBy t own = AllByRecursion (λ (stored : Stored). identity_transaction stored.id ≡ t) own

-- no inserted row has an identity of another transaction
pub own-unwritten : (t : ℕ) (id : Identity) (own : List Stored) → identity_transaction id ≢ t → AreMadeBy t own → is_written (map own_write own) id ≡ false
own-unwritten t id [] other all = refl
own-unwritten t id (stored ∷ own) other all =
    or_from (same_identity stored.id id) (is_written (map own_write own) id)
    (false_from_ne_true (same_identity stored.id id) (λ same. other (ap identity_transaction (sym (same-exact stored.id id same)) ∙ all.0)))
    (own-unwritten t id own other all.1)

unwritten-append : (id : Identity) (xs ys : List Write) → is_written xs id ≡ false → is_written ys id ≡ false → is_written (xs ++ ys) id ≡ false
unwritten-append id [] ys left right = right
unwritten-append id (x ∷ xs) ys left right =
    or_from (same_identity x.id id) (is_written (xs ++ ys) id) (or_parts (same_identity x.id id) (is_written xs id) left).0 (unwritten-append id xs ys (or_parts (same_identity x.id id) (is_written xs id) left).1 right)

abbrev AreUnwritten : List Write → List Write → Type 0
AreUnwritten own writes = AllByRecursion (λ (write : Write). is_written own write.id ≡ false) writes

distinct-append : (xs ys : List Write) → AreDistinct xs → AreDistinct ys → AreUnwritten ys xs → AreDistinct (xs ++ ys)
distinct-append [] ys left right across = right
distinct-append (x ∷ xs) ys left right across = (unwritten-append x.id xs ys left.0 across.0, distinct-append xs ys left.1 right across.1)

across-cons : (slot : Slot) (span : Span) (rest own : List Write) → is_written own span.id ≡ false → AreUnwritten own rest → AreUnwritten own (cons_option (slot_write slot (row_of unannotated span)) rest)
across-cons Same span rest own none all = all
across-cons (Put cells) span rest own none all = (none, all)
across-cons Dropped span rest own none all = (none, all)

across-own : (t : ℕ) (slots : List Slot) (own : List Stored) (spans : List Span) → AreOthers t spans → AreMadeBy t own → AreUnwritten (map own_write own) (base_writes slots (map (row_of unannotated) spans))
across-own t slots own [] others all = tt
across-own t slots own (span ∷ spans) others all =
    across-cons (head_slot slots) span (base_writes (drop 1 slots) (map (row_of unannotated) spans)) (map own_write own) (own-unwritten t span.id own others.0 all) (across-own t (drop 1 slots) own spans others.1 all)

pub others-held : (t v : ℕ) (spans : List Span) → AreOthers t spans → AreOthers t (spans_at v spans)
others-held t v [] all = tt
others-held t v (span ∷ spans) all = elim (holds_at v span) as (λ b. AreOthers t (cond b (span ∷ spans_at v spans) (spans_at v spans))) [ true ↦ (all.0, others-held t v spans all.1) | false ↦ others-held t v spans all.1 ]

-- ---- the rows that are carried over

pub carried-written : (carried : List Carried) (id : Identity) → is_written (map carried_write carried) id ≡ is_carried carried id
carried-written [] id = refl
carried-written (row ∷ rows) id = ap (λ b. same_identity row.id id || b) (carried-written rows id)

module _ (carried : List Carried) where
  abbrev unslotted : List Span → List Span
  unslotted spans = filter (λ (span : Span). not (is_carried carried span.id)) spans

  abbrev IsUncarried : Span → Type 0
  IsUncarried span = is_carried carried span.id ≡ false

  all-uncarried : (spans : List Span) → AllByRecursion IsUncarried (unslotted spans)
  all-uncarried [] = tt
  all-uncarried (span ∷ spans) =
      elim (is_carried carried span.id) as (λ b. is_carried carried span.id ≡ b → AllByRecursion IsUncarried (cond (not b) (span ∷ unslotted spans) (unslotted spans))) [
        | true ↦ λ is. all-uncarried spans
        | false ↦ λ is. (is, all-uncarried spans)
      ] refl

  across-carried : (slots : List Slot) (spans : List Span) → AllByRecursion IsUncarried spans → AreUnwritten (map carried_write carried) (base_writes slots (map (row_of unannotated) spans))
  across-carried slots [] all = tt
  across-carried slots (span ∷ spans) all =
      across-cons (head_slot slots) span (base_writes (drop 1 slots) (map (row_of unannotated) spans)) (map carried_write carried) (carried-written carried span.id ∙ all.0) (across-carried (drop 1 slots) spans all.1)

  differ-all : (span : Span) (spans : List Span) → AllByRecursion (λ (other : Span). same_identity span.id other.id ≡ false) spans → AllByRecursion (λ (other : Span). same_identity span.id other.id ≡ false) (unslotted spans)
  differ-all span spans all = all-filter (λ (other : Span). same_identity span.id other.id ≡ false) (λ (other : Span). not (is_carried carried other.id)) spans all

  differ-unslotted : (spans : List Span) → AreOfDifferentRows spans → AreOfDifferentRows (unslotted spans)
  differ-unslotted [] all = tt
  differ-unslotted (span ∷ spans) all =
      elim (is_carried carried span.id) as (λ b. AreOfDifferentRows (cond (not b) (span ∷ unslotted spans) (unslotted spans))) [ true ↦ differ-unslotted spans all.1 | false ↦ (differ-all span spans all.0, differ-unslotted spans all.1) ]

  pub others-slotted : (t v : ℕ) (spans : List Span) → AreOthers t spans → AreOthers t (slotted_spans carried v spans)
  others-slotted t v spans all = all-filter (λ (span : Span). identity_transaction span.id ≢ t) (λ (span : Span). not (is_carried carried span.id)) (spans_at v spans) (others-held t v spans all)

-- what holds of the identities of rows holds of each one that was written
slot-all : (P : Identity → Type 0) (slot : Slot) (span : Span) (rest : List Write) → P span.id → AllByRecursion (λ (write : Write). P write.id) rest → AllByRecursion (λ (write : Write). P write.id) (cons_option (slot_write slot (row_of unannotated span)) rest)
slot-all P Same span rest this all = all
slot-all P (Put cells) span rest this all = (this, all)
slot-all P Dropped span rest this all = (this, all)

base-all : (P : Identity → Type 0) (slots : List Slot) (spans : List Span) → AllByRecursion (λ (span : Span). P span.id) spans → AllByRecursion (λ (write : Write). P write.id) (base_writes slots (map (row_of unannotated) spans))
base-all P slots [] all = tt
base-all P slots (span ∷ spans) all = slot-all P (head_slot slots) span (base_writes (drop 1 slots) (map (row_of unannotated) spans)) all.0 (base-all P (drop 1 slots) spans all.1)

-- of a table
pub slots-all : (P : Identity → Type 0) (writes : Overlay) (spans : List Span) → AllByRecursion (λ (span : Span). P span.id) spans → AllByRecursion (λ (write : Write). P write.id) (slot_writes writes (rows_below writes spans))
slots-all P writes spans all =
    subst (λ (rows : List (Annotated (Unit {0}))). AllByRecursion (λ (write : Write). P write.id) (base_writes writes.slots rows)) (sym (rows-spans writes.carried writes.version spans))
    (base-all P writes.slots (slotted_spans writes.carried writes.version spans)
    (all-filter (λ (span : Span). P span.id) (λ (span : Span). not (is_carried writes.carried span.id)) (spans_at writes.version spans) (all-filter (λ (span : Span). P span.id) (holds_at writes.version) spans all)))

-- and of each one that is carried over
pub over-all : (P : Identity → Type 0) (writes : Overlay) (spans : List Span) → AllByRecursion (λ (span : Span). P span.id) spans → AllByRecursion (λ (row : Carried). P row.id) writes.carried
    → AllByRecursion (λ (row : Carried). P row.id) (carried_over writes (rows_below writes spans))
over-all P writes spans all mine =
    each_append (λ (row : Carried). P row.id) (map (carried_of writes.version) (slot_writes writes (rows_below writes spans))) writes.carried
    (all-map (carried_of writes.version) (λ (write : Write). P write.id) (λ (row : Carried). P row.id) (λ write this. this) (slot_writes writes (rows_below writes spans)) (slots-all P writes spans all)) mine

-- a row that is carried over is not the transaction's own
own-uncarried : (t : ℕ) (own : List Stored) (carried : List Carried) → AreMadeBy t own → AllByRecursion (λ (row : Carried). identity_transaction row.id ≢ t) carried → AreUnwritten (map own_write own) (map carried_write carried)
own-uncarried t own [] made all = tt
own-uncarried t own (row ∷ rows) made all = (own-unwritten t row.id own all.0 made, own-uncarried t own rows made all.1)

across-both : (left right writes : List Write) → AreUnwritten left writes → AreUnwritten right writes → AreUnwritten (left ++ right) writes
across-both left right [] first second = tt
across-both left right (write ∷ writes) first second = (unwritten-append write.id left right first.0 second.0, across-both left right writes first.1 second.1)

module _ (stored : TableWrites) (spans : List Span) (t : ℕ) (apart : NoOverlap spans) (others : AreOthers t spans) where
  abbrev writes : Overlay
  writes = overlay_of spans stored

  abbrev held : List Span
  held = slotted_spans writes.carried writes.version spans

  same-writes : base_writes writes.slots (map (row_of unannotated) held) ≡ slot_writes writes (rows_below writes spans)
  same-writes = ap (base_writes writes.slots) (sym (rows-spans writes.carried writes.version spans))

  distinct-slots : AreDistinct (slot_writes writes (rows_below writes spans))
  distinct-slots = subst AreDistinct same-writes (distinct-base writes.slots held (differ-unslotted writes.carried (spans_at writes.version spans) (held-differ writes.version spans apart)))

  across-slots : AreUnwritten (map carried_write writes.carried) (slot_writes writes (rows_below writes spans))
  across-slots = subst (AreUnwritten (map carried_write writes.carried)) same-writes (across-carried writes.carried writes.slots held (all-uncarried writes.carried (spans_at writes.version spans)))

  pub distinct-table : AreWritesOf t stored → AreDistinct (table_writes writes (rows_below writes spans))
  distinct-table mine =
      let rows = map carried_write writes.carried in
      let own = map own_write writes.own in
      distinct-append (slot_writes writes (rows_below writes spans)) (rows ++ own) distinct-slots
      (distinct-append rows own mine.carried.1 mine.inserted.1 (own-uncarried t writes.own writes.carried mine.inserted.0 mine.carried.0))
      (across-both rows own (slot_writes writes (rows_below writes spans)) across-slots
      (subst (AreUnwritten own) same-writes (across-own t writes.slots writes.own held (others-slotted writes.carried t writes.version spans others) mine.inserted.0)))

  -- ---- the rows to be carried over to another version

  back : (list : List Write) → map carried_write (map (carried_of writes.version) list) ≡ list
  back [] = refl
  back (write ∷ list) = ap (λ (rest : List Write). write ∷ rest) (back list)

  pub carried-keeps : AreCarried t writes.carried → AreCarried t (carried_over writes (rows_below writes spans))
  carried-keeps mine =
      let list = slot_writes writes (rows_below writes spans) in
      let new = map (carried_of writes.version) list in (
        over-all (λ id. identity_transaction id ≢ t) writes spans others mine.0,
        rw (map-append carried_write new writes.carried, back list) (distinct-append list (map carried_write writes.carried) distinct-slots mine.1 across-slots),
      )

made-by : (t last : ℕ) (own : List Stored) → AllByRecursion (IsOwn t last) own → AreMadeBy t own
made-by t last [] all = tt
made-by t last (stored ∷ own) all = (all.0.0, made-by t last own all.1)

pub inserted-own : (t last : ℕ) (own : List Stored) → AreOwn t last own → AreInserted t own
inserted-own t last own all = (made-by t last own all.0, all.1)

pub writes-own : (t last : ℕ) (writes : TableWrites) → KeepsOwn t last writes → AreWritesOf t writes
writes-own t last writes keeps = record { inserted = inserted-own t last writes.own keeps.own; carried = keeps.carried }
