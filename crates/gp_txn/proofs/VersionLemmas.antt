-- The version that a commit makes: the rows that the transaction did not write, and then those that it wrote and sees.
use Rattle.std.proofs.Common.{◌≡◌, ◌≢◌, drop, ℕ, ◌+◌, ◌-◌, ◌<◌, ◌≤◌, Bool, true, false, cond, not, List, [], ◌∷◌, ◌++◌, map, length, Option, Some, None, refl, ap, sym, ◌∙◌, subst, inl, inr}
use Rattle.std.specs.List.{filter, filter_map, cons_option}
use Rattle.std.specs.Option.{is_none}
use Rattle.std.proofs.lemmas.Bool.{cases_lt}
use Rattle.std.proofs.lemmas.List.{map-append}
use Rattle.std.proofs.lemmas.List.Elements.{filter-append, filter_map-append}
use Rattle.std.proofs.Math.ListN.{get_or-eq_default}
use Rattle.gp_base.specs.declared.cell.Cell.{Cell}
use Rattle.gp_base.specs.declared.stored.Stored.{Stored}
use Rattle.gp_base.specs.Annotated.{unannotated}
use Rattle.gp_base.specs.Identities.{Identity}
use Rattle.gp_base.specs.IdentityParts.{identity_transaction}
use Rattle.gp_versions.specs.declared.span.Span.{Span}
use Rattle.gp_versions.specs.declared.span.Write.{Write}
use Rattle.gp_versions.specs.Commits.{AreBelow, after_commit, is_written, live_row, live_rows, unwritten_rows}
use Rattle.gp_versions.specs.Spans.{Versions, row_of, rows_at, spans_at}
use Rattle.gp_versions.proofs.SpanLemmas.{below-after, rows-before, rows-new-at}
use Rattle.gp_base.specs.declared.limit.TheConstants.{MAX_SPANS}
use Rattle.gp_txn.specs.declared.carried.Carried.{Carried}
use Rattle.gp_txn.specs.declared.overlay.Slot.{Slot}
use Rattle.gp_txn.specs.declared.overlay.Slot.TheVariants.{Same, Put, Dropped}
use Rattle.gp_txn.specs.declared.overlay.TableWrites.{TableWrites}
use Rattle.gp_txn.specs.Bases.{base_of}
use Rattle.gp_txn.specs.Committing.{Commits, commit_of, spans_left, unmarked, view_below}
use Rattle.gp_txn.specs.Conflicts.{IsFirstConflict, lates_at}
use Rattle.gp_txn.specs.Overlay.{Overlay, PlainRow, base_writes, carried_row, carried_write, head_slot, overlaid, own_row, own_write, rows_below, shown, slot_write, slot_writes, slotted, slotted_spans, table_writes, view_rows}
use Rattle.gp_txn.specs.Transactions.{AreOthers, HoldsOthers, HoldsOwn, Writes, base_at, database_at, no_table, overlay_at, table_at}
use Rattle.gp_txn.proofs.BaseLemmas.{base-none, table-written}
use Rattle.gp_txn.proofs.CommitLemmas.{AreMadeBy, inserted-own, others-held}
use Rattle.gp_txn.proofs.SlottedLemmas.{rows-spans}

-- ---- the rows that the writes leave are the marked rows of the view

abbrev marked : List PlainRow → List PlainRow
marked rows = map unmarked (filter (λ row. row.mark) rows)

marked-append : (xs ys : List PlainRow) → marked (xs ++ ys) ≡ marked xs ++ marked ys
marked-append xs ys =
    ap (map unmarked) (filter-append (λ (row : PlainRow). row.mark) xs ys) ∙ map-append unmarked (filter (λ (row : PlainRow). row.mark) xs) (filter (λ (row : PlainRow). row.mark) ys)

live-shown : (slot : Slot) (span : Span) (rest : List Write) → live_rows unannotated (cons_option (slot_write slot (row_of unannotated span)) rest) ≡ marked (shown slot (row_of unannotated span)) ++ live_rows unannotated rest
live-shown Same span rest = refl
live-shown (Put cells) span rest = refl
live-shown Dropped span rest = refl

live-base : (slots : List Slot) (spans : List Span) → live_rows unannotated (base_writes slots (map (row_of unannotated) spans)) ≡ marked (overlaid slots (map (row_of unannotated) spans))
live-base slots [] = refl
live-base slots (span ∷ spans) =
    live-shown (head_slot slots) span (base_writes (drop 1 slots) (map (row_of unannotated) spans))
    ∙ ap (λ rows. marked (shown (head_slot slots) (row_of unannotated span)) ++ rows) (live-base (drop 1 slots) spans)
    ∙ sym (marked-append (shown (head_slot slots) (row_of unannotated span)) (overlaid (drop 1 slots) (map (row_of unannotated) spans)))

live-own : (own : List Stored) → live_rows unannotated (map own_write own) ≡ marked (map own_row own)
live-own [] = refl
live-own (stored ∷ own) = ap (λ rows. record { identity = stored.id; cells = stored.row; mark = false; annotation = tt } ∷ rows) (live-own own)

live-carried-one : (row : Carried) (cells : Option (List Cell)) (writes : List Write) (rows : List PlainRow) → row.row ≡ cells → live_rows unannotated writes ≡ marked rows → live_rows unannotated (carried_write row ∷ writes) ≡ marked (cons_option (carried_row row) rows)
live-carried-one row None writes rows is rest = rw is rest
live-carried-one row (Some cells) writes rows is rest = rw is (ap (λ (others : List PlainRow). record { identity = row.id; cells = cells; mark = false; annotation = tt } ∷ others) rest)

live-carried : (carried : List Carried) → live_rows unannotated (map carried_write carried) ≡ marked (filter_map carried_row carried)
live-carried [] = refl
live-carried (row ∷ rows) = live-carried-one row row.row (map carried_write rows) (filter_map carried_row rows) refl (live-carried rows)

live-slots : (writes : Overlay) (spans : List Span) → live_rows unannotated (slot_writes writes (rows_below writes spans)) ≡ marked (overlaid writes.slots (slotted writes.carried (rows_below writes spans)))
live-slots writes spans =
    subst (λ (rows : List PlainRow). live_rows unannotated (base_writes writes.slots rows) ≡ marked (overlaid writes.slots rows)) (sym (rows-spans writes.carried writes.version spans)) (live-base writes.slots (slotted_spans writes.carried writes.version spans))

pub live-view : (writes : Overlay) (spans : List Span) → live_rows unannotated (table_writes writes (rows_below writes spans)) ≡ marked (view_rows writes (rows_below writes spans))
live-view writes spans =
    let rows = filter_map carried_row writes.carried in
    let own = map own_row writes.own in
    filter_map-append (live_row unannotated) (slot_writes writes (rows_below writes spans)) (map carried_write writes.carried ++ map own_write writes.own)
    ∙ ap (λ (others : List PlainRow). live_rows unannotated (slot_writes writes (rows_below writes spans)) ++ others) (filter_map-append (live_row unannotated) (map carried_write writes.carried) (map own_write writes.own))
    ∙ (λ i. live-slots writes spans i ++ (live-carried writes.carried i ++ live-own writes.own i))
    ∙ ap (λ (others : List PlainRow). marked (overlaid writes.slots (slotted writes.carried (rows_below writes spans))) ++ others) (sym (marked-append rows own))
    ∙ sym (marked-append (overlaid writes.slots (slotted writes.carried (rows_below writes spans))) (rows ++ own))

-- ---- the rows that are left are those that have no base

module _ (writes : Overlay) (base : List PlainRow) (t : ℕ) (made : AreMadeBy t writes.own) where
  pub unwritten-none : (id : Identity) → identity_transaction id ≢ t → not (is_written (table_writes writes base) id) ≡ is_none (base_of writes base id)
  unwritten-none id other = ap not (table-written writes base t id other made) ∙ sym (base-none writes base id)

  left-one : (b c : Bool) (span : Span) (rest others : List PlainRow) → b ≡ c → rest ≡ map unmarked others → cond b (row_of unannotated span ∷ rest) rest ≡ map unmarked (cond c (row_of unannotated span ∷ others) others)
  left-one true true span rest others same are = ap (λ rows. row_of unannotated span ∷ rows) are
  left-one true false span rest others same are = absurd (cc)
  left-one false true span rest others same are = absurd (cc)
  left-one false false span rest others same are = are

  left : (spans : List Span) → AreOthers t spans → unwritten_rows (table_writes writes base) (map (row_of unannotated) spans) ≡ map unmarked (filter (λ row. is_none (base_of writes base row.identity)) (map (row_of unannotated) spans))
  left [] others = refl
  left (span ∷ spans) others =
      left-one (not (is_written (table_writes writes base) span.id)) (is_none (base_of writes base span.id)) span (unwritten_rows (table_writes writes base) (map (row_of unannotated) spans))
      (filter (λ row. is_none (base_of writes base row.identity)) (map (row_of unannotated) spans)) (unwritten-none span.id others.0) (left spans others.1)

-- ---- all of a commit

module _ (version : ℕ) (writes : Writes) (old new : List Versions) (first : 1 ≤ version) (own : HoldsOwn writes) (others : HoldsOthers writes.t old)
    (above : (place : ℕ) → AreBelow version (table_at place old).spans) (same : length new ≡ length old)
    (spans : (place : ℕ) → place < length old → (table_at place new).spans ≡ after_commit version (commit_of writes.tables old place) (table_at place old).spans) where
  -- where there is no table, there are no spans
  beyond : (place : ℕ) → length old ≤ place → (table_at place new).spans ≡ (table_at place old).spans
  beyond place high =
      ap (λ (table : Versions). table.spans) (get_or-eq_default new no_table (subst (λ n. n ≤ place) (sym same) high))
      ∙ ap (λ (table : Versions). table.spans) (sym (get_or-eq_default old no_table high))

  older : (v place : ℕ) → v < version → database_at v new place ≡ database_at v old place
  older v place early =
      elim (cases_lt place (length old)) [
        | inl low ↦ ap (rows_at unannotated v) (spans place low) ∙ rows-before unannotated v version (commit_of writes.tables old place) (table_at place old).spans early
        | inr high ↦ ap (rows_at unannotated v) (beyond place high)
      ]

  newest : (place : ℕ) → place < length old
      → database_at version new place
      ≡ map unmarked (filter (λ row. is_none (base_at writes.tables old place row.identity)) (database_at (version - 1) old place)
      ++ filter (λ row. row.mark) (view_below writes.tables old place))
  newest place low =
      let table = overlay_at place writes.tables old in
      let held = (table_at place old).spans in
      let base = rows_below table held in
      ap (rows_at unannotated version) (spans place low)
      ∙ rows-new-at unannotated version (commit_of writes.tables old place) held first (above place)
      ∙ (λ i. left table base writes.t (inserted-own writes.t writes.last table.own (own place).own).0 (spans_at (version - 1) held) (others-held writes.t (version - 1) held (others place)) i ++ live-view table held i)
      ∙ sym (map-append unmarked (filter (λ row. is_none (base_of table base row.identity)) (database_at (version - 1) old place)) (filter (λ row. row.mark) (view_below writes.tables old place)))

  below : (place : ℕ) → AreBelow (version + 1) (table_at place new).spans
  below place =
      elim (cases_lt place (length old)) [
        | inl low ↦ subst (AreBelow (version + 1)) (sym (spans place low)) (below-after version (commit_of writes.tables old place) (table_at place old).spans (above place))
        | inr high ↦ subst (AreBelow (version + 1)) (sym (ap (λ (table : Versions). table.spans) (get_or-eq_default new no_table (subst (λ n. n ≤ place) (sym same) high)))) tt
      ]

  pub commits : IsFirstConflict (length old) (lates_at writes.tables old) None → spans_left writes.tables old ≤ MAX_SPANS → Commits version writes old new
  commits none few = record { made = record { first = none; few = few; spans = spans }; older = older; newest = newest; below = below }

  -- commits over a list that equals the tables of the transaction, as the code has taken it
  pub commits-of : (tables : List TableWrites) → tables ≡ writes.tables → IsFirstConflict (length old) (lates_at tables old) None → spans_left tables old ≤ MAX_SPANS → Commits version writes old new
  commits-of tables of-tables none few =
      commits (λ place low. sym (λ i. lates_at (of-tables i) old place) ∙ none place low) (subst (λ n. n ≤ MAX_SPANS) (λ i. spans_left (of-tables i) old) few)
