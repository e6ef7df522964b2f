-- A statement that leaves these writes of its table was applied.
use Rattle.std.proofs.Common.{◌≡◌, ◌≢◌, ℕ, suc, ◌+◌, ◌<◌, ◌≤◌, nat_lt, Ok, false, cond, ◌⊎◌, Option, slice_set, List, [], ◌∷◌, ◌++◌, map, length, refl, ap, sym, ◌∙◌, subst, inl, inr}
use Rattle.std.specs.List.{AllByRecursion}
use Rattle.std.proofs.lemmas.Bool.{cases_eq, eq-eqb, ne_eqb}
use Rattle.std.proofs.lemmas.List.{length-append, get_or-set_same, get_or-set_other}
use Rattle.gp_base.specs.declared.cell.Cell.{Cell}
use Rattle.gp_base.specs.declared.stored.Stored.{Stored}
use Rattle.gp_base.specs.Annotated.{unannotated, Database}
use Rattle.gp_base.specs.Identities.{Identity}
use Rattle.gp_base.specs.IdentityParts.{identity_transaction}
use Rattle.gp_algebra.specs.Answers.{answer}
use Rattle.gp_algebra.specs.Statements.{Select, Statement, insert, insert_select}
use Rattle.gp_algebra.specs.Effects.{Written, given_from, made, step, wrote, with_rows, written_in}
use Rattle.gp_base.specs.declared.limit.TheConstants.{MAX_TABLE_ROWS}
use Rattle.gp_versions.specs.declared.span.Span.{Span}
use Rattle.gp_versions.specs.Spans.{Versions, rows_at}
use Rattle.gp_versions.specs.TableSpans.{NoOverlap}
use Rattle.gp_txn.specs.declared.carried.Carried.{Carried}
use Rattle.gp_txn.specs.declared.overlay.TableWrites.{TableWrites}
use Rattle.gp_txn.specs.Changes.{Change, update, delete, statement_at, rows_after, touched}
use Rattle.gp_txn.specs.Bases.{base_after, base_of, table_view}
use Rattle.gp_txn.specs.Overlay.{Overlay, PlainRow, no_writes, overlay_of, own_row, rows_below, view_rows}
use Rattle.gp_txn.specs.Rebasing.{IsMoved, or_writes, writes_over}
use Rattle.gp_txn.specs.Transactions.{Applied, AreOthers, AreOwn, AreThere, KeepsOwn, Writes, base_at, has_written, table_at, view_at, writes_at}
use Rattle.gp_txn.specs.Applying.{Wrote, has_too_many_rows, has_too_many_nodes}
use Rattle.gp_txn.specs.Inserting.{Prepares}
use Rattle.gp_txn.specs.Slots.{changed_carried, changed_overlay, changed_table, count_touched, put_table, with_own}
use Rattle.gp_txn.proofs.BaseLemmas.{base-changed}
use Rattle.gp_txn.proofs.ChangedLemmas.{overlay-changed}
use Rattle.gp_txn.proofs.CommitLemmas.{AreMadeBy, inserted-own}
use Rattle.gp_txn.proofs.DistinctLemmas.{IsMade, given_rows-made, made_rows-made}
use Rattle.gp_txn.proofs.OverlayLemmas.{view-changed, view-more}
use Rattle.gp_txn.proofs.OwnLemmas.{own-later}
use Rattle.gp_txn.proofs.PairLemmas.{all-weaker}
use Rattle.gp_txn.proofs.RebaseLemmas.{after-none, base-over, keeps-over, moved-is, own-over, there-over, version-over, view-over}
use Rattle.gp_txn.proofs.WrittenLemmas.{has_identity, own-identity, written-elsewhere, written-here}

-- ---- one table is put

put-here : (k place : ℕ) (new : TableWrites) (old : Writes) → place < length old.tables → writes_at place (put_table k place new old).tables ≡ new
put-here k place new old within = get_or-set_same old.tables place new (no_writes 0) within

put-other : (k place other : ℕ) (new : TableWrites) (old : Writes) → other ≢ place → writes_at other (put_table k place new old).tables ≡ writes_at other old.tables
put-other k place other new old apart = get_or-set_other old.tables place other new (no_writes 0) apart

-- the rows that a transaction keeps are still its own at a later statement
keeps-later : (t last k : ℕ) (writes : TableWrites) → last ≤ k → KeepsOwn t last writes → KeepsOwn t k writes
keeps-later t last k writes later keeps = record { own = own-later t last k writes.own later keeps.own; carried = keeps.carried }

-- what holds of the writes of each table
put-all : (P : ℕ → TableWrites → Type 0) (k place : ℕ) (new : TableWrites) (old : Writes) → place < length old.tables → P place new → ((p : ℕ) → p ≢ place → P p (writes_at p old.tables)) → (p : ℕ) → P p (writes_at p (put_table k place new old).tables)
put-all P k place new old within here others p =
    elim (cases_eq p place) [
      | inl same ↦ subst (λ q. P q (writes_at q (put_table k place new old).tables)) (sym same) (subst (P place) (sym (put-here k place new old within)) here)
      | inr apart ↦ subst (P p) (sym (put-other k place p new old apart)) (others p apart)
    ]

-- what a transaction keeps of its own survives new writes of one table
pub keeps-set : (t last k place : ℕ) (tables : List TableWrites) (new : TableWrites) → place < length tables → last ≤ k → ((p : ℕ) → KeepsOwn t last (writes_at p tables)) → KeepsOwn t k new
    → (p : ℕ) → KeepsOwn t k (writes_at p (slice_set tables place new))
keeps-set t last k place tables new within later holds mine p =
    elim (cases_eq p place) [
      | inl same ↦ subst (λ q. KeepsOwn t k (writes_at q (slice_set tables place new))) (sym same) (subst (KeepsOwn t k) (sym (get_or-set_same tables place new (no_writes 0) within)) mine)
      | inr apart ↦ subst (KeepsOwn t k) (sym (get_or-set_other tables place p new (no_writes 0) apart)) (keeps-later t last k (writes_at p tables) later (holds p))
    ]

-- the writes of a table with more inserted rows, once they were moved
pub inserted-is : (version : ℕ) (table before now : TableWrites) (moved : Option TableWrites) (spans : List Span) (new : List Stored) → IsMoved version spans table moved → before ≡ table → now ≡ with_own new (or_writes moved before)
    → now ≡ with_own new (writes_over version spans table)
inserted-is version table before now moved spans new is same made = made ∙ ap (λ (w : TableWrites). with_own new (or_writes moved w)) same ∙ ap (with_own new) (moved-is version table spans moved is)

-- the transaction keeps its own rows
pub inserted-keeps : (t last k version : ℕ) (table before now : TableWrites) (moved : Option TableWrites) (spans : List Span) (new : List Stored) → last ≤ k → NoOverlap spans → AreOthers t spans → KeepsOwn t last table
    → IsMoved version spans table moved → before ≡ table → now ≡ with_own new (or_writes moved before) → AreOwn t k (table.own ++ new) → KeepsOwn t k now
inserted-keeps t last k version table before now moved spans new later apart others keeps is same made mine =
    subst (KeepsOwn t k) (sym (inserted-is version table before now moved spans new is same made)) (record {
      own = subst (λ own. AreOwn t k (own ++ new)) (sym (own-over version table spans)) mine;
      carried = (keeps-over version table spans t last apart others keeps).carried;
    })

module _ (k version place : ℕ) (statement : Statement) (versions : List Versions) (old : Writes) (within : place < length old.tables) where
  abbrev next : Database (Unit {0})
  next = step unannotated old.t k statement (view_at old.tables versions version)

  abbrev pairs : List Written
  pairs = wrote unannotated old.t k statement (view_at old.tables versions version)

  abbrev spans : ℕ → List Span
  spans p = (table_at p versions).spans

  -- the writes of its table that the statement changes
  abbrev writes : TableWrites
  writes = writes_over version (spans place) (writes_at place old.tables)

  abbrev base : List PlainRow
  base = rows_at unannotated version (spans place)

  module _ (new : TableWrites) (same : new.version ≡ version) where
    abbrev over : Overlay
    over = overlay_of (spans place) new

    same-view : table_view over (spans place) version ≡ view_rows over base
    same-view = rw (same, eq-eqb version version refl) refl

    same-base : (id : Identity) → base_of over (rows_below over (spans place)) id ≡ base_of over base id
    same-base id = ap (λ v. base_of over (rows_at unannotated v (spans place)) id) same

    pub applied-put : view_rows over base ≡ next place → ((p : ℕ) → p ≢ place → next p ≡ view_at old.tables versions version p)
        → ((id : Identity) → identity_transaction id ≢ old.t → base_of over base id ≡ base_after version (has_written pairs place id) (base_of (overlay_of (spans place) writes) base id))
        → ((p : ℕ) (id : Identity) → p ≢ place → has_written pairs p id ≡ false)
        → (AreThere (spans place) writes.carried → AreThere (spans place) new.carried)
        → Applied k version statement versions old (put_table k place new old)
    applied-put here others bases elsewhere there = record {
      t = refl;
      read_committed = refl;
      begin = refl;
      last = refl;
      view = put-all (λ p table. table_view (overlay_of (spans p) table) (spans p) version ≡ next p) k place new old within (same-view ∙ here) (λ p apart. sym (others p apart));
      base = λ p id other.
          put-all (λ q table. base_of (overlay_of (spans q) table) (rows_below (overlay_of (spans q) table) (spans q)) id ≡ base_after version (has_written pairs q id) (base_at old.tables versions q id)) k place new old within
          (same-base id ∙ bases id other ∙ ap (base_after version (has_written pairs place id)) (base-over version (writes_at place old.tables) (spans place) id))
          (λ q apart. sym (ap (λ b. base_after version b (base_at old.tables versions q id)) (elsewhere q id apart) ∙ after-none version (base_at old.tables versions q id))) p;
      below = put-all (λ p table. (table.version ≡ (writes_at p old.tables).version) ⊎ (table.version ≡ version)) k place new old within (inr same) (λ p apart. inl refl);
      there = λ holds. put-all (λ p table. AreThere (spans p) table.carried) k place new old within (there (there-over version (writes_at place old.tables) (spans place) (holds place))) (λ p apart. holds p);
    }

-- ---- UPDATE and DELETE

step-change : (t k place : ℕ) (change : Change) (db : Database (Unit {0})) (p : ℕ) → step unannotated t k (statement_at place change) db p ≡ with_rows place (rows_after unannotated t k change (db place)) db p
step-change t k place (update sets c) db p = refl
step-change t k place (delete c) db p = refl

wrote-change : (t k place : ℕ) (change : Change) (db : Database (Unit {0})) → wrote unannotated t k (statement_at place change) db ≡ written_in place (touched change (db place))
wrote-change t k place (update sets c) db = refl
wrote-change t k place (delete c) db = refl

rows-here : (place : ℕ) (rows : List PlainRow) (db : Database (Unit {0})) → with_rows place rows db place ≡ rows
rows-here place rows db = ap (λ b. cond b rows (db place)) (eq-eqb place place refl)

rows-other : (place p : ℕ) (rows : List PlainRow) (db : Database (Unit {0})) → p ≢ place → with_rows place rows db p ≡ db p
rows-other place p rows db apart = ap (λ b. cond b rows (db p)) (ne_eqb p place apart)

there-changed : (spans : List Span) (change : Change) (carried : List Carried) → AreThere spans carried → AreThere spans (changed_carried change carried)
there-changed spans change [] all = tt
there-changed spans change (row ∷ rows) all = (all.0, there-changed spans change rows all.1)

pub applied-change : (k version place : ℕ) (change : Change) (versions : List Versions) (old : Writes) → place < length old.tables → KeepsOwn old.t old.last (writes_at place old.tables)
    → Applied k version (statement_at place change) versions old
    (put_table k place (changed_table change (table_at place versions).spans (writes_over version (table_at place versions).spans (writes_at place old.tables))) old)
applied-change k version place change versions old within keeps =
    let db = view_at old.tables versions version in
    let spans = (table_at place versions).spans in
    let base = rows_at unannotated version spans in
    let writes = writes_over version spans (writes_at place old.tables) in
    let shown = view-over version (writes_at place old.tables) spans in
    let same = version-over version (writes_at place old.tables) spans in
    let made : AreMadeBy old.t writes.own =
    subst (AreMadeBy old.t) (sym (own-over version (writes_at place old.tables) spans)) (inserted-own old.t old.last (writes_at place old.tables).own keeps.own).0 in
    let over = overlay_of spans writes in
    let is : overlay_of spans (changed_table change spans writes) ≡ changed_overlay change over base = overlay-changed change spans writes ∙ ap (λ v. changed_overlay change over (rows_at unannotated v spans)) same in
    applied-put k version place (statement_at place change) versions old within (changed_table change spans writes) same
    (ap (λ (o : Overlay). view_rows o base) is
    ∙ view-changed old.t k change over base
    ∙ ap (rows_after unannotated old.t k change) (sym shown)
    ∙ sym (step-change old.t k place change db place ∙ rows-here place (rows_after unannotated old.t k change (db place)) db))
    (λ p apart. step-change old.t k place change db p ∙ rows-other place p (rows_after unannotated old.t k change (db place)) db apart)
    (λ id other.
    ap (λ (o : Overlay). base_of o base id) is
    ∙ base-changed old.t change over base id other made
    ∙ (λ i. base_after (same i) (has_identity (touched change (sym shown i)) id) (base_of over base id))
    ∙ ap (λ b. base_after version b (base_of over base id))
    (sym (ap (λ pairs. has_written pairs place id) (wrote-change old.t k place change db) ∙ written-here place (touched change (db place)) id)))
    (λ p id apart. ap (λ pairs. has_written pairs p id) (wrote-change old.t k place change db) ∙ written-elsewhere place p (touched change (db place)) id apart)
    (there-changed spans change writes.carried)

-- ---- INSERT

pub applied-insert : (k version place : ℕ) (statement : Statement) (rows : List PlainRow) (new : List Stored) (versions : List Versions) (old : Writes) → place < length old.tables
    → map own_row new ≡ rows → AllByRecursion (IsMade unannotated old.t k) rows
    → ((p : ℕ) → step unannotated old.t k statement (view_at old.tables versions version) p ≡ with_rows place (view_at old.tables versions version place ++ rows) (view_at old.tables versions version) p)
    → wrote unannotated old.t k statement (view_at old.tables versions version) ≡ written_in place rows
    → Applied k version statement versions old (put_table k place (with_own new (writes_over version (table_at place versions).spans (writes_at place old.tables))) old)
applied-insert k version place statement rows new versions old within are made steps writes_are =
    let db = view_at old.tables versions version in
    let spans = (table_at place versions).spans in
    let base = rows_at unannotated version spans in
    let writes = writes_over version spans (writes_at place old.tables) in
    let shown = view-over version (writes_at place old.tables) spans in
    applied-put k version place statement versions old within (with_own new writes) (version-over version (writes_at place old.tables) spans)
    (view-more spans writes new base ∙ (λ i. sym shown i ++ are i) ∙ sym (steps place ∙ rows-here place (db place ++ rows) db))
    (λ p apart. steps p ∙ rows-other place p (db place ++ rows) db apart)
    (λ id other.
    sym (ap (λ b. base_after version b (base_of (overlay_of spans writes) base id))
    (ap (λ pairs. has_written pairs place id) writes_are ∙ written-here place rows id
    ∙ own-identity old.t rows id other (all-weaker (IsMade unannotated old.t k) (λ (row : PlainRow). identity_transaction row.identity ≡ old.t) (λ row is. is.0) rows made))
    ∙ after-none version (base_of (overlay_of spans writes) base id)))
    (λ p id apart. ap (λ pairs. has_written pairs p id) writes_are ∙ written-elsewhere place p rows id apart)
    (λ there. there)

-- ---- what is answered

length-map : {X Y : Type 0} (f : X → Y) (xs : List X) → length (map f xs) ≡ length xs
length-map f [] = refl
length-map f (x ∷ xs) = ap suc (length-map f xs)

few-rows : (k version place : ℕ) (change : Change) (versions : List Versions) (old : Writes) → has_too_many_rows k version (statement_at place change) versions old ≡ false
few-rows k version place (update sets c) versions old = refl
few-rows k version place (delete c) versions old = refl

few-nodes : (k version place : ℕ) (change : Change) (versions : List Versions) (old : Writes) → has_too_many_nodes k version (statement_at place change) versions old ≡ false
few-nodes k version place (update sets c) versions old = refl
few-nodes k version place (delete c) versions old = refl

-- an UPDATE and a DELETE pass no limit
pub change-wrote : (k version place : ℕ) (change : Change) (versions : List Versions) (old : Writes) (count : ℕ) → place < length old.tables → KeepsOwn old.t old.last (writes_at place old.tables)
    → count ≡ count_touched change (view_at old.tables versions version place)
    → Wrote k version (statement_at place change) versions old (put_table k place (changed_table change (table_at place versions).spans (writes_over version (table_at place versions).spans (writes_at place old.tables))) old) count
change-wrote k version place change versions old count within own is = record {
  applied = applied-change k version place change versions old within own;
  number = is ∙ sym (ap length (wrote-change old.t k place change (view_at old.tables versions version)) ∙ length-map (λ (row : PlainRow). record { table = place; identity = row.identity }) (touched change (view_at old.tables versions version place)));
  few_rows = few-rows k version place change versions old;
  few_nodes = few-nodes k version place change versions old;
}

-- the number of rows that an INSERT leaves
pub rows-many : (place most : ℕ) (rows : List PlainRow) (db : Database (Unit {0})) → nat_lt most (length (with_rows place (db place ++ rows) db place)) ≡ nat_lt most (length (db place) + length rows)
rows-many place most rows db = ap (λ (all : List PlainRow). nat_lt most (length all)) (rows-here place (db place ++ rows) db) ∙ ap (λ n. nat_lt most n) (length-append (db place) rows)

pub insert-wrote : (k version place : ℕ) (given : List (List Cell)) (new : List Stored) (versions : List Versions) (old : Writes) (count : ℕ) → place < length old.tables
    → Prepares (Ok new) (length (view_at old.tables versions version place)) (given_from unannotated old.t k 1 given) → count ≡ length new
    → Wrote k version (insert place given) versions old (put_table k place (with_own new (writes_over version (table_at place versions).spans (writes_at place old.tables))) old) count
insert-wrote k version place given new versions old count within prepared is =
    let rows = given_from unannotated old.t k 1 given in
    record {
      applied = applied-insert k version place (insert place given) rows new versions old within prepared.1 (given_rows-made unannotated old.t k 1 given) (λ p. refl) refl;
      number = is ∙ sym (length-map (λ (row : PlainRow). record { table = place; identity = row.identity }) rows ∙ ap (λ (all : List PlainRow). length all) (sym prepared.1) ∙ length-map own_row new);
      few_rows = rows-many place MAX_TABLE_ROWS rows (view_at old.tables versions version) ∙ prepared.0;
      few_nodes = prepared.2;
    }

pub insert_select-wrote : (k version place : ℕ) (select : Select) (new : List Stored) (versions : List Versions) (old : Writes) (count : ℕ) → place < length old.tables
    → Prepares (Ok new) (length (view_at old.tables versions version place)) (map (made unannotated old.t k) (answer unannotated select (view_at old.tables versions version))) → count ≡ length new
    → Wrote k version (insert_select place select) versions old (put_table k place (with_own new (writes_over version (table_at place versions).spans (writes_at place old.tables))) old) count
insert_select-wrote k version place select new versions old count within prepared is =
    let rows = map (made unannotated old.t k) (answer unannotated select (view_at old.tables versions version)) in
    record {
      applied = applied-insert k version place (insert_select place select) rows new versions old within prepared.1 (made_rows-made unannotated old.t k (answer unannotated select (view_at old.tables versions version))) (λ p. refl) refl;
      number = is ∙ sym (length-map (λ (row : PlainRow). record { table = place; identity = row.identity }) rows ∙ ap (λ (all : List PlainRow). length all) (sym prepared.1) ∙ length-map own_row new);
      few_rows = rows-many place MAX_TABLE_ROWS rows (view_at old.tables versions version) ∙ prepared.0;
      few_nodes = prepared.2;
    }
