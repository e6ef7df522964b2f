-- The writes of a table over another version: they show the rows of that version that the transaction has not written, and then those that it wrote,
-- and each row that was written keeps its base.
use Rattle.std.proofs.Common.{◌≡◌, ℕ, Bool, true, false, cond, not, ◌||◌, ◌==◌, List, [], ◌∷◌, ◌++◌, map, drop, Option, Some, None, refl, ap, sym, ◌∙◌}
use Rattle.std.specs.List.{cons_option, filter, filter_map, AllByRecursion}
use Rattle.std.specs.Option.{is_none}
use Rattle.std.proofs.lemmas.Bool.{eqb-true, or_right}
use Rattle.std.proofs.lemmas.List.{append_assoc}
use Rattle.std.proofs.lemmas.List.Elements.{filter-append, filter_map-append}
use Rattle.std.proofs.lemmas.List.Folds.{list_any-append}
use Rattle.gp_base.specs.declared.cell.Cell.{Cell}
use Rattle.gp_base.specs.declared.stored.Stored.{Stored}
use Rattle.gp_base.specs.Annotated.{unannotated}
use Rattle.gp_base.specs.Identities.{Identity, same_identity}
use Rattle.gp_versions.specs.declared.span.Span.{Span}
use Rattle.gp_versions.specs.declared.span.Write.{Write}
use Rattle.gp_versions.specs.Commits.{is_written}
use Rattle.gp_versions.specs.Spans.{row_of, rows_at, spans_at}
use Rattle.gp_versions.specs.TableSpans.{NoOverlap}
use Rattle.gp_versions.proofs.SameLemmas.{same-itself}
use Rattle.gp_txn.specs.declared.carried.Carried.{Carried}
use Rattle.gp_txn.specs.declared.overlay.Slot.{Slot}
use Rattle.gp_txn.specs.declared.overlay.Slot.TheVariants.{Same, Put, Dropped}
use Rattle.gp_txn.specs.declared.overlay.TableWrites.{TableWrites}
use Rattle.gp_txn.specs.Bases.{base_after, base_of, carried_base, refreshed, table_view}
use Rattle.gp_txn.specs.Overlay.{Overlay, PlainRow, base_writes, carried_row, head_slot, is_carried, own_row, overlaid, overlay_of, rows_below, shown, slot_write, slot_writes, slots_from, slotted, view_rows}
use Rattle.gp_txn.specs.Rebasing.{IsMoved, carried_of, carried_over, or_writes, rebased, writes_over}
use Rattle.gp_txn.specs.Transactions.{AreOthers, AreThere, KeepsOwn, has_span}
use Rattle.gp_txn.proofs.BaseLemmas.{base-none, carried-none, written-uncarried}
use Rattle.gp_txn.proofs.CommitLemmas.{carried-keeps, over-all}
use Rattle.gp_txn.proofs.PairLemmas.{all-weaker}
use Rattle.gp_txn.proofs.PlacedLemmas.{none-same, overlaid-same, writes-same}

-- ---- the marked rows

abbrev marked : List PlainRow → List PlainRow
marked rows = filter (λ (row : PlainRow). row.mark) rows

abbrev AreUnmarked : List PlainRow → Type 0
AreUnmarked rows = AllByRecursion (λ (row : PlainRow). row.mark ≡ false) rows

marked-carried-one : (carried : Carried) (cells : Option (List Cell)) (others : List PlainRow) → carried.row ≡ cells → marked others ≡ others → marked (cons_option (carried_row carried) others) ≡ cons_option (carried_row carried) others
marked-carried-one carried None others is rest = rw is rest
marked-carried-one carried (Some cells) others is rest = rw is (ap (λ (rows : List PlainRow). record { identity = carried.id; cells = cells; mark = true; annotation = tt } ∷ rows) rest)

marked-carried : (carried : List Carried) → marked (filter_map carried_row carried) ≡ filter_map carried_row carried
marked-carried [] = refl
marked-carried (row ∷ rows) = marked-carried-one row row.row (filter_map carried_row rows) refl (marked-carried rows)

marked-own : (own : List Stored) → marked (map own_row own) ≡ map own_row own
marked-own [] = refl
marked-own (stored ∷ own) = ap (λ (rows : List PlainRow). own_row stored ∷ rows) (marked-own own)

-- where no row is below, it sees the rows that it wrote, at any version
marked-all : (carried : List Carried) (own : List Stored) → marked (filter_map carried_row carried ++ map own_row own) ≡ filter_map carried_row carried ++ map own_row own
marked-all carried own = filter-append (λ (row : PlainRow). row.mark) (filter_map carried_row carried) (map own_row own) ∙ (λ i. marked-carried carried i ++ marked-own own i)

pub view-nowhere : (table : Overlay) (version : ℕ) → table_view table [] version ≡ filter_map carried_row table.carried ++ map own_row table.own
view-nowhere table version =
    elim (version == table.version) as (λ same. cond same (view_rows table []) (refreshed table [] []) ≡ filter_map carried_row table.carried ++ map own_row table.own) [
      | true ↦ refl
      | false ↦ marked-all table.carried table.own
    ]

module _ (version : ℕ) where
  abbrev moved_rows : List Write → List PlainRow
  moved_rows list = filter_map carried_row (map (carried_of version) list)

  moved-slot : (slot : Slot) (row : PlainRow) (rest : List Write) → row.mark ≡ false → moved_rows (cons_option (slot_write slot row) rest) ≡ marked (shown slot row) ++ moved_rows rest
  moved-slot Same row rest unmarked = rw unmarked refl
  moved-slot (Put cells) row rest unmarked = refl
  moved-slot Dropped row rest unmarked = refl

  -- the rows that were written over a version are the marked ones of what is seen there
  moved-marked : (slots : List Slot) (rows : List PlainRow) → AreUnmarked rows → moved_rows (base_writes slots rows) ≡ marked (overlaid slots rows)
  moved-marked slots [] all = refl
  moved-marked slots (row ∷ rows) all =
      moved-slot (head_slot slots) row (base_writes (drop 1 slots) rows) all.0
      ∙ ap (λ (others : List PlainRow). marked (shown (head_slot slots) row) ++ others) (moved-marked (drop 1 slots) rows all.1)
      ∙ sym (filter-append (λ (other : PlainRow). other.mark) (shown (head_slot slots) row) (overlaid (drop 1 slots) rows))

unmarked-slotted : (carried : List Carried) (rows : List PlainRow) → AreUnmarked rows → AreUnmarked (slotted carried rows)
unmarked-slotted carried [] all = tt
unmarked-slotted carried (row ∷ rows) all =
    elim (is_carried carried row.identity) as (λ b. AreUnmarked (cond (not b) (row ∷ slotted carried rows) (slotted carried rows))) [ true ↦ unmarked-slotted carried rows all.1 | false ↦ (all.0, unmarked-slotted carried rows all.1) ]

unmarked-spans : (spans : List Span) → AreUnmarked (map (row_of unannotated) spans)
unmarked-spans [] = tt
unmarked-spans (span ∷ spans) = (refl, unmarked-spans spans)

-- ---- the rows that were written

carried-moved : (version : ℕ) (list : List Write) (id : Identity) → is_carried (map (carried_of version) list) id ≡ is_written list id
carried-moved version [] id = refl
carried-moved version (write ∷ list) id = ap (λ b. same_identity write.id id || b) (carried-moved version list id)

pub after-none : (new : ℕ) (some : Option ℕ) → base_after new false some ≡ some
after-none new None = refl
after-none new (Some b) = refl

module _ (version : ℕ) (writes : Overlay) (base : List PlainRow) where
  carried-over : (id : Identity) → is_carried (carried_over writes base) id ≡ (is_written (slot_writes writes base) id || is_carried writes.carried id)
  carried-over id =
      list_any-append (λ (row : Carried). same_identity row.id id) (map (carried_of writes.version) (slot_writes writes base)) writes.carried
      ∙ ap (λ b. b || is_carried writes.carried id) (carried-moved writes.version (slot_writes writes base) id)

  -- no row of the new version is written yet
  abbrev no_slots : List Span → List Slot
  no_slots spans = slots_from (carried_over writes base) version [] 0 spans

  -- a row of the new version has a slot where it was not written
  slotted-over : (rows : List PlainRow) → slotted (carried_over writes base) rows ≡ filter (λ row. is_none (base_of writes base row.identity)) rows
  slotted-over rows = λ i. filter (λ (row : PlainRow). (ap not (carried-over row.identity) ∙ sym (base-none writes base row.identity)) i) rows

  rows-over : AreUnmarked base → filter_map carried_row (carried_over writes base) ++ map own_row writes.own ≡ marked (view_rows writes base)
  rows-over unmarked =
      let slots = overlaid writes.slots (slotted writes.carried base) in
      let rows = filter_map carried_row writes.carried in
      let own = map own_row writes.own in
      ap (λ (some : List PlainRow). some ++ own) (filter_map-append carried_row (map (carried_of writes.version) (slot_writes writes base)) writes.carried)
      ∙ append_assoc (moved_rows writes.version (slot_writes writes base)) rows own
      ∙ (λ i. moved-marked writes.version writes.slots (slotted writes.carried base) (unmarked-slotted writes.carried base unmarked) i ++ (sym (marked-carried writes.carried) i ++ sym (marked-own writes.own) i))
      ∙ ap (λ (others : List PlainRow). marked slots ++ others) (sym (filter-append (λ (row : PlainRow). row.mark) rows own))
      ∙ sym (filter-append (λ (row : PlainRow). row.mark) slots (rows ++ own))

  pub view-rebased : AreUnmarked base → (spans : List Span) (rows : List PlainRow) → view_rows (overlay_of spans (rebased version writes base)) rows ≡ refreshed writes base rows
  view-rebased unmarked spans rows =
      (λ i. overlaid-same (no_slots spans) (slotted (carried_over writes base) rows) (none-same (carried_over writes base) version 0 spans) i ++ (filter_map carried_row (carried_over writes base) ++ map own_row writes.own))
      ∙ (λ i. slotted-over rows i ++ rows-over unmarked i)

  -- ---- bases

  base-moved : (list : List Write) (id : Identity) → carried_base (map (carried_of writes.version) list ++ writes.carried) id ≡ cond (is_written list id) (Some writes.version) (carried_base writes.carried id)
  base-moved [] id = refl
  base-moved (write ∷ list) id =
      elim (same_identity write.id id) as (λ b. cond b (Some writes.version) (carried_base (map (carried_of writes.version) list ++ writes.carried) id) ≡ cond (b || is_written list id) (Some writes.version) (carried_base writes.carried id)) [
        | true ↦ refl
        | false ↦ base-moved list id
      ]

  base-first : (wrote : Bool) (some : Option ℕ) → (wrote ≡ true → some ≡ None) → cond wrote (Some writes.version) some ≡ base_after writes.version wrote some
  base-first true some none = rw (none refl) refl
  base-first false None none = refl
  base-first false (Some b) none = refl

  pub base-rebased : (spans : List Span) (rows : List PlainRow) (id : Identity) → base_of (overlay_of spans (rebased version writes base)) rows id ≡ base_of writes base id
  base-rebased spans rows id =
      ap (λ (list : List Write). base_after version (is_written list id) (carried_base (carried_over writes base) id)) (writes-same (no_slots spans) (slotted (carried_over writes base) rows) (none-same (carried_over writes base) version 0 spans))
      ∙ after-none version (carried_base (carried_over writes base) id)
      ∙ base-moved (slot_writes writes base) id
      ∙ base-first (is_written (slot_writes writes base) id) (carried_base writes.carried id)
      (λ written. carried-none writes.carried id (written-uncarried writes base id written))

-- ---- the rows of the table

there-more : (first : Span) (spans others : List Span) → AllByRecursion (λ (span : Span). has_span spans span.id ≡ true) others → AllByRecursion (λ (span : Span). has_span (first ∷ spans) span.id ≡ true) others
there-more first spans others all =
    all-weaker (λ (span : Span). has_span spans span.id ≡ true) (λ (span : Span). has_span (first ∷ spans) span.id ≡ true) (λ span is. or_right (same_identity first.id span.id) (has_span spans span.id) is) others all

spans-there : (spans : List Span) → AllByRecursion (λ (span : Span). has_span spans span.id ≡ true) spans
spans-there [] = tt
spans-there (span ∷ spans) = (rw (same-itself span.id) refl, there-more span spans spans (spans-there spans))

-- ---- the writes over a version

module _ (version : ℕ) (stored : TableWrites) (spans : List Span) where
  abbrev writes : Overlay
  writes = overlay_of spans stored

  abbrev over : Bool → TableWrites
  over same = cond same stored (rebased version writes (rows_below writes spans))

  abbrev view_by : Bool → List PlainRow
  view_by same = cond same (view_rows writes (rows_at unannotated version spans)) (refreshed writes (rows_below writes spans) (rows_at unannotated version spans))

  view-by : (same : Bool) → view_by same ≡ view_rows (overlay_of spans (over same)) (rows_at unannotated version spans)
  view-by true = refl
  view-by false = sym (view-rebased version writes (rows_below writes spans) (unmarked-spans (spans_at writes.version spans)) spans (rows_at unannotated version spans))

  -- they show what the transaction sees there
  pub view-over : table_view writes spans version ≡ view_rows (overlay_of spans (writes_over version spans stored)) (rows_at unannotated version spans)
  view-over = view-by (version == writes.version)

  base-by : (same : Bool) → (version == writes.version) ≡ same → (id : Identity) → base_of (overlay_of spans (over same)) (rows_at unannotated version spans) id ≡ base_of writes (rows_below writes spans) id
  base-by true is id = ap (λ v. base_of writes (rows_at unannotated v spans) id) (eqb-true version writes.version is)
  base-by false is id = base-rebased version writes (rows_below writes spans) spans (rows_at unannotated version spans) id

  pub base-over : (id : Identity) → base_of (overlay_of spans (writes_over version spans stored)) (rows_at unannotated version spans) id ≡ base_of writes (rows_below writes spans) id
  base-over id = base-by (version == writes.version) refl id

  version-by : (same : Bool) → (version == writes.version) ≡ same → (over same).version ≡ version
  version-by true is = sym (eqb-true version writes.version is)
  version-by false is = refl

  pub version-over : (writes_over version spans stored).version ≡ version
  version-over = version-by (version == writes.version) refl

  own-by : (same : Bool) → (over same).own ≡ writes.own
  own-by true = refl
  own-by false = refl

  pub own-over : (writes_over version spans stored).own ≡ writes.own
  own-over = own-by (version == writes.version)

  keeps-by : (t last : ℕ) → NoOverlap spans → AreOthers t spans → KeepsOwn t last stored → (same : Bool) → KeepsOwn t last (over same)
  keeps-by t last apart others keeps true = keeps
  keeps-by t last apart others keeps false = record { own = keeps.own; carried = carried-keeps stored spans t apart others keeps.carried }

  pub keeps-over : (t last : ℕ) → NoOverlap spans → AreOthers t spans → KeepsOwn t last stored → KeepsOwn t last (writes_over version spans stored)
  keeps-over t last apart others keeps = keeps-by t last apart others keeps (version == writes.version)

  there-by : AreThere spans writes.carried → (same : Bool) → AreThere spans (over same).carried
  there-by there true = there
  there-by there false = over-all (λ id. has_span spans id ≡ true) writes spans (spans-there spans) there

  pub there-over : AreThere spans writes.carried → AreThere spans (writes_over version spans stored).carried
  there-over there = there-by there (version == writes.version)

  -- what is seen over what the code made for the version, if it made anything
  pub view-moved : (moved : Option TableWrites) → IsMoved version spans stored moved → view_rows (overlay_of spans (or_writes moved stored)) (rows_below (overlay_of spans (or_writes moved stored)) spans) ≡ table_view writes spans version
  view-moved None is = rw is (ap (λ v. view_rows writes (rows_at unannotated v spans)) (sym (eqb-true version writes.version is)))
  view-moved (Some moved) is = rw (is.1, is.0) (view-rebased version writes (rows_below writes spans) (unmarked-spans (spans_at writes.version spans)) spans (rows_at unannotated version spans))

  -- what the code made for the version
  pub moved-is : (moved : Option TableWrites) → IsMoved version spans stored moved → or_writes moved stored ≡ writes_over version spans stored
  moved-is None is = rw is refl
  moved-is (Some moved) is = rw is.0 is.1
