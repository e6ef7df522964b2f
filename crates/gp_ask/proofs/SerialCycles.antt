-- What a cycle that SERIAL answers says of a history is true: the rows were changed so, and each transaction comes before the next one.
use Rattle.std.proofs.Common.{◌≡◌, ◌≢◌, ◌⊎◌, ◌<◌, ◌≤◌, ◌+◌, ◌-◌, ℕ, zero, suc, Bool, true, false, cond, List, [], ◌∷◌, ◌++◌, length, map, get_or, Option, Some, None, refl, sym, ap, ◌∙◌, subst, arith, inl, inr}
use Rattle.std.specs.Prelude.{◌==◌, ◌&&◌, ◌||◌, filter, find, nat_le, nat_lt, not, slice_get, unwrap_or, is_some}
use Rattle.std.specs.List.{AllByRecursion, flat_map, list_any}
use Rattle.std.specs.Option.{option_map_or}
use Rattle.std.proofs.lemmas.Bool.{and_parts, eqb-true, false≢true}
use Rattle.std.proofs.lemmas.Bool.Decides.{nat_tests}
use Rattle.std.proofs.lemmas.Option.{same_Some}
use Rattle.gp_base.specs.declared.table.Table.{Table}
use Rattle.gp_base.specs.Annotated.{unannotated}
use Rattle.gp_base.specs.Identities.{same_identity}
use Rattle.gp_base.specs.Order.{sorted_by}
use Rattle.gp_base.proofs.SmallLemmas.{each_append, eq_itself, some_none}
use Rattle.gp_algebra.specs.Reannotation.{forgotten, reannotated}
use Rattle.gp_versions.proofs.SameLemmas.{same-exact}
use Rattle.gp_versions.specs.declared.span.Span.{Span}
use Rattle.gp_versions.specs.Spans.{rows_at, span_cmp}
use Rattle.gp_versions.specs.TableSpans.{AreWhole, NoOverlap}
use Rattle.gp_machine.specs.Committed.{is_written}
use Rattle.gp_machine.specs.Entries.{Entry, Began, Committed, Created, Ended, Ran, committer_of, statement_at, statement_count, statement_version, versions_in, transactions_in, version_of}
use Rattle.gp_machine.specs.HistorySpans.{state_spans}
use Rattle.gp_machine.specs.Looks.{looks}
use Rattle.gp_machine.specs.Precedence.{Reason, ReadAfter, ReadBefore, Wrote, changes_by, is_before, looked_at, meets, numbers, read_after, read_before, reasons, same_row, wrote_before}
use Rattle.gp_machine.specs.RowChanges as m
use Rattle.gp_machine.specs.RowChanges.{RowChange, deleted_changes, goes_on_in, span_changes, spans_changes, tables_changes}
use Rattle.gp_machine.specs.SeenRows.{HaveDifferentIdentities}
use Rattle.gp_machine.specs.State.{State}
use Rattle.gp_serial.specs.Graphs.{closes, is_cycle, least_cycle, lists_of}
use Rattle.gp_serial.specs.Serializing.{by_number, step_of, steps_of, steps_to}
use Rattle.gp_serial.proofs.AgreeLemmas.{all_lists_in}
use Rattle.gp_serial.proofs.Anys.{there_is}
use Rattle.gp_ask.specs.ChangeForms.{ends_at, goes_on, row_before}
use Rattle.gp_ask.specs.SerialAnswers.{step_text}
use Rattle.gp_ask.specs.SerialHistories.{AreSteps, IsChangeBy, IsReason, IsStep, IsTrue, LooksAt, cells_in}
use Rattle.gp_ask.specs.ShownWrites as shown
use Rattle.gp_ask.proofs.CommitLines.{IsIn, Told, Yields, are-told, begins-written, changes_in, ends-written, side-is}
use Rattle.gp_ask.proofs.CommitTexts.{goes_same}
use Rattle.gp_ask.proofs.RowCells.{cells-are}

-- ---- the changes of a version, among those of all versions

abbrev own_change : RowChange → shown.RowChange
own_change change = record { id = change.row.identity; before = change.before; after = change.after }

abbrev IsAmong : shown.RowChange → List shown.RowChange → Type 0
IsAmong x [] = ⊥
IsAmong x (y ∷ ys) = (x ≡ y) ⊎ IsAmong x ys

of_each : (P : shown.RowChange → Type 0) (x : shown.RowChange) (ys : List shown.RowChange) → AllByRecursion P ys → IsAmong x ys → P x
of_each P x [] all is = absurd is
of_each P x (y ∷ ys) (own, all) (inl e) = subst P (sym e) own
of_each P x (y ∷ ys) (own, all) (inr is) = of_each P x ys all is

among_first : (x : shown.RowChange) (ys zs : List shown.RowChange) → IsAmong x ys → IsAmong x (ys ++ zs)
among_first x [] zs is = absurd is
among_first x (y ∷ ys) zs (inl e) = inl e
among_first x (y ∷ ys) zs (inr is) = inr (among_first x ys zs is)

among_last : (x : shown.RowChange) (ys zs : List shown.RowChange) → IsAmong x zs → IsAmong x (ys ++ zs)
among_last x [] zs is = is
among_last x (y ∷ ys) zs is = inr (among_last x ys zs is)

each_weaker : {A : Type 0} (P Q : A → Type 0) → ((x : A) → P x → Q x) → (xs : List A) → AllByRecursion P xs → AllByRecursion Q xs
each_weaker P Q weaker [] all = tt
each_weaker P Q weaker (x ∷ xs) (own, all) = (weaker x own, each_weaker P Q weaker xs all)

begun_among : (last : Option Span) (span : Span) (spans : List Span) (rest : List shown.RowChange)
    → IsAmong (record { id = span.id; before = row_before span.from last span; after = Some span.row })
    ((cond (span.from == span.from) (record { id = span.id; before = row_before span.from last span; after = Some span.row } ∷ []) []
    ++ cond (ends_at span.from span && not (goes_on span.from span (slice_get spans 0))) (record { id = span.id; before = Some span.row; after = None } ∷ []) []) ++ rest)
begun_among last span spans rest =
    subst (λ b. IsAmong (record { id = span.id; before = row_before span.from last span; after = Some span.row })
    ((cond b (record { id = span.id; before = row_before span.from last span; after = Some span.row } ∷ []) []
    ++ cond (ends_at span.from span && not (goes_on span.from span (slice_get spans 0))) (record { id = span.id; before = Some span.row; after = None } ∷ []) []) ++ rest)) (sym (eq_itself span.from)) (inl refl)

deleted_among : (table version : ℕ) (last : Option Span) (span : Span) (spans : List Span) (rest : List shown.RowChange)
    → AllByRecursion (λ (x : RowChange). x.version ≡ version → IsAmong (own_change x)
    ((cond (span.from == version) (record { id = span.id; before = row_before version last span; after = Some span.row } ∷ []) []
    ++ cond (ends_at version span && not (goes_on version span (slice_get spans 0))) (record { id = span.id; before = Some span.row; after = None } ∷ []) []) ++ rest))
    (deleted_changes table span (slice_get spans 0))
deleted_among table version last span spans rest = by (option_map_or (goes_on_in span) (slice_get spans 0) false) refl span.to refl
  where
    by : (b : Bool) → option_map_or (goes_on_in span) (slice_get spans 0) false ≡ b → (to : Option ℕ) → span.to ≡ to
        → AllByRecursion (λ (x : RowChange). x.version ≡ version → IsAmong (own_change x)
        ((cond (span.from == version) (record { id = span.id; before = row_before version last span; after = Some span.row } ∷ []) []
        ++ cond (ends_at version span && not (goes_on version span (slice_get spans 0))) (record { id = span.id; before = Some span.row; after = None } ∷ []) []) ++ rest))
        (cond b [] (option_map_or (λ (to : ℕ). record { version = to; row = record { table = table; identity = span.id }; before = Some span.row; after = None } ∷ []) to []))
    by true goes to ends = tt
    by false goes None ends = tt
    by false goes (Some to) ends = (λ is. found is, tt)
      where
        found : to ≡ version → IsAmong (record { id = span.id; before = Some span.row; after = None })
            ((cond (span.from == version) (record { id = span.id; before = row_before version last span; after = Some span.row } ∷ []) []
            ++ cond (ends_at version span && not (goes_on version span (slice_get spans 0))) (record { id = span.id; before = Some span.row; after = None } ∷ []) []) ++ rest)
        found is =
            let ends_there : ends_at version span ≡ true = ap (λ own. option_map_or (λ (to : ℕ). to == version) own false) ends ∙ ap (λ v. v == version) is ∙ eq_itself version in
            let none_behind : goes_on version span (slice_get spans 0) ≡ false = sym (goes_same version span (slice_get spans 0) (ends ∙ ap (λ v. Some v) is)) ∙ goes in
            among_first (record { id = span.id; before = Some span.row; after = None }) (cond (span.from == version) (record { id = span.id; before = row_before version last span; after = Some span.row } ∷ []) []
            ++ cond (ends_at version span && not (goes_on version span (slice_get spans 0))) (record { id = span.id; before = Some span.row; after = None } ∷ []) []) rest
            (among_last (record { id = span.id; before = Some span.row; after = None }) (cond (span.from == version) (record { id = span.id; before = row_before version last span; after = Some span.row } ∷ []) [])
            (cond (ends_at version span && not (goes_on version span (slice_get spans 0))) (record { id = span.id; before = Some span.row; after = None } ∷ []) [])
            (subst (λ b. IsAmong (record { id = span.id; before = Some span.row; after = None }) (cond b (record { id = span.id; before = Some span.row; after = None } ∷ []) []))
            (sym (λ i. ends_there i && not (none_behind i))) (inl refl)))

matched : (table version : ℕ) (last : Option Span) (spans : List Span) → AllByRecursion (λ (x : RowChange). x.version ≡ version → IsAmong (own_change x) (changes_in version last spans)) (spans_changes table last spans)
matched table version last [] = tt
matched table version last (span ∷ spans) =
    each_append (λ (x : RowChange). x.version ≡ version → IsAmong (own_change x) (changes_in version last (span ∷ spans))) (span_changes table last span (slice_get spans 0)) (spans_changes table (Some span) spans) (
      (λ is. subst (λ v. IsAmong (record { id = span.id; before = row_before span.from last span; after = Some span.row }) (changes_in v last (span ∷ spans))) is
          (begun_among last span spans (changes_in span.from (Some span) spans))),
      deleted_among table version last span spans (changes_in version (Some span) spans),
    )
    (each_weaker (λ (x : RowChange). x.version ≡ version → IsAmong (own_change x) (changes_in version (Some span) spans)) (λ (x : RowChange). x.version ≡ version → IsAmong (own_change x) (changes_in version last (span ∷ spans)))
    (λ x own is. among_last (own_change x) (cond (span.from == version) (record { id = span.id; before = row_before version last span; after = Some span.row } ∷ []) []
    ++ cond (ends_at version span && not (goes_on version span (slice_get spans 0))) (record { id = span.id; before = Some span.row; after = None } ∷ []) []) (changes_in version (Some span) spans) (own is))
    (spans_changes table (Some span) spans) (matched table version (Some span) spans))

-- ---- what holds of each

pub kept_each : {A : Type 0} (P Q : A → Type 0) (q : A → Bool) → ((x : A) → P x → q x ≡ true → Q x) → (xs : List A) → AllByRecursion P xs → AllByRecursion Q (filter q xs)
kept_each P Q q keeps [] all = tt
kept_each P Q q keeps (x ∷ xs) (own, all) = by (q x) refl (kept_each P Q q keeps xs all)
  where
    by : (e : Bool) → q x ≡ e → AllByRecursion Q (filter q xs) → AllByRecursion Q (cond e (x ∷ filter q xs) (filter q xs))
    by true is rest = (keeps x own is, rest)
    by false is rest = rest

pub each_of : {A B : Type 0} (P : B → Type 0) (f : A → List B) (xs : List A) → ((x : A) → AllByRecursion P (f x)) → AllByRecursion P (flat_map f xs)
each_of P f [] each = tt
each_of P f (x ∷ xs) each = each_append P (f x) (flat_map f xs) (each x) (each_of P f xs each)

pub each_with : {A B : Type 0} (P : B → Type 0) (Q : A → Type 0) (f : A → List B) (xs : List A) → AllByRecursion Q xs → ((x : A) → Q x → AllByRecursion P (f x)) → AllByRecursion P (flat_map f xs)
each_with P Q f [] all each = tt
each_with P Q f (x ∷ xs) (own, all) each = each_append P (f x) (flat_map f xs) (each x own) (each_with P Q f xs all each)

pub mapped_each : {A B : Type 0} (P : B → Type 0) (Q : A → Type 0) (f : A → B) → ((x : A) → Q x → P (f x)) → (xs : List A) → AllByRecursion Q xs → AllByRecursion P (map f xs)
mapped_each P Q f holds [] all = tt
mapped_each P Q f holds (x ∷ xs) (own, all) = (holds x own, mapped_each P Q f holds xs all)

-- ---- the transaction that made a version

made_some : (version : ℕ) (entries : List Entry) → 0 < committer_of version entries → (0 < version) × (version ≤ versions_in entries)
made_some version [] some = absurd (omega (arith, some))
made_some version (Created line session table ∷ older) some = made_some version older some
made_some version (Began line session t level ∷ older) some = made_some version older some
made_some version (Ran line session command t statement ∷ older) some = made_some version older some
made_some version (Ended line session end t ∷ older) some = made_some version older some
made_some version (Committed line session t ∷ older) some = by (suc (versions_in older) == version) refl some (made_some version older)
  where
    by : (b : Bool) → (suc (versions_in older) == version) ≡ b → 0 < cond b t (committer_of version older) → (0 < committer_of version older → (0 < version) × (version ≤ versions_in older))
        → (0 < version) × (version ≤ suc (versions_in older))
    by true is some rest = let same = eqb-true (suc (versions_in older)) version is in (omega (arith, same), omega (arith, same))
    by false is some rest = let own = rest some in (own.0, omega (arith, own.1))

-- ---- a history

module _ (state : State (Unit {0})) (rows : (version table : ℕ) → version ≤ versions_in state.entries → rows_at unannotated version (state_spans state table) ≡ map (reannotated forgotten) (state.committed version table))
    (apart : (table : ℕ) → NoOverlap (state_spans state table)) (whole : (table : ℕ) → AreWhole (state_spans state table))
    (different : (version table : ℕ) → version ≤ versions_in state.entries → HaveDifferentIdentities (state.committed version table)) where
  -- a row of a span that begins or ends with a version was written by its commit
  yields_written : (table version : ℕ) (y : Span) → IsIn y (state_spans state table) → Yields version y → is_written table y.id (state.written version) ≡ true
  yields_written table version y is (inl begins) =
      subst (λ n. is_written table y.id (state.written n) ≡ true) begins (begins-written (versions_in state.entries) state.committed state.written table y is)
  yields_written table version y is (inr to) = ends-written (versions_in state.entries) state.committed state.written table y version is to

  true_in : (table : ℕ) (change : RowChange) → change.row.table ≡ table
      → ((p : ℕ) → change.version ≡ suc p → IsAmong (own_change change) (changes_in (suc p) None (sorted_by span_cmp (state_spans state table)))) → IsTrue state change
  true_in table change at found some =
      let made = made_some change.version state.entries some in
      let p : ℕ = change.version - 1 in
      let is : change.version ≡ suc p = omega (arith, made.0) in
      let told : Told p (λ x. IsIn x (state_spans state table)) (own_change change) =
      of_each (Told p (λ x. IsIn x (state_spans state table))) (own_change change) (changes_in (suc p) None (sorted_by span_cmp (state_spans state table)))
      (are-told p (state_spans state table) (apart table) (whole table)) (found p is) in
      record {
        maker = refl;
        first = made.0;
        written =
            subst (λ id. is_written change.row.table id (state.written change.version) ≡ true) (sym told.comes.1.1.0)
            (subst (λ t. is_written t told.comes.0.id (state.written change.version) ≡ true) (sym at)
            (subst (λ v. is_written table told.comes.0.id (state.written v) ≡ true) (sym is) (yields_written table (suc p) told.comes.0 told.comes.1.0 told.comes.1.1.1)));
        before = ap (λ t. cells_in change.row.identity (state.committed p t)) at
            ∙ cells-are (state.committed p table) change.row.identity change.before (different p table (omega (arith, made.1)))
            (side-is p (state_spans state table) (state.committed p table) (rows p table (omega (arith, made.1))) p change.row.identity change.before told.before);
        after = (λ i. cells_in change.row.identity (state.committed (is i) (at i)))
            ∙ cells-are (state.committed (suc p) table) change.row.identity change.after (different (suc p) table (omega (arith, made.1, is)))
            (side-is (suc p) (state_spans state table) (state.committed (suc p) table) (rows (suc p) table (omega (arith, made.1, is))) p change.row.identity change.after told.after);
      }

  each_both : {A : Type 0} (P Q R : A → Type 0) → ((x : A) → P x → Q x → R x) → (xs : List A) → AllByRecursion P xs → AllByRecursion Q xs → AllByRecursion R xs
  each_both P Q R both [] one two = tt
  each_both P Q R both (x ∷ xs) (p, one) (q, two) = (both x p q, each_both P Q R both xs one two)

  table_in : (table : ℕ) (last : Option Span) (spans : List Span) → AllByRecursion (λ (change : RowChange). change.row.table ≡ table) (spans_changes table last spans)
  table_in table last [] = tt
  table_in table last (span ∷ spans) = (
    refl,
    each_append (λ (change : RowChange). change.row.table ≡ table) (deleted_changes table span (slice_get spans 0)) (spans_changes table (Some span) spans)
        (deleted (option_map_or (goes_on_in span) (slice_get spans 0) false) span.to) (table_in table (Some span) spans),
  )
    where
      deleted : (b : Bool) (to : Option ℕ) → AllByRecursion (λ (change : RowChange). change.row.table ≡ table)
          (cond b [] (option_map_or (λ (to : ℕ). record { version = to; row = record { table = table; identity = span.id }; before = Some span.row; after = None } ∷ []) to []))
      deleted true to = tt
      deleted false None = tt
      deleted false (Some to) = (refl, tt)

  every : {A : Type 0} (P : ℕ → A → Type 0) (xs : List A) → ((p : ℕ) → AllByRecursion (P p) xs) → AllByRecursion (λ x. (p : ℕ) → P p x) xs
  every P [] all = tt
  every P (x ∷ xs) all = ((λ p. (all p).0), every P xs (λ p. (all p).1))

  table_true : (table : ℕ) → AllByRecursion (IsTrue state) (spans_changes table None (sorted_by span_cmp (state_spans state table)))
  table_true table =
      let sorted : List Span = sorted_by span_cmp (state_spans state table) in
      each_both (λ (x : RowChange). x.row.table ≡ table) (λ (x : RowChange). (p : ℕ) → x.version ≡ suc p → IsAmong (own_change x) (changes_in (suc p) None sorted)) (IsTrue state)
      (λ x at found. true_in table x at found) (spans_changes table None sorted) (table_in table None sorted)
      (every (λ p (x : RowChange). x.version ≡ suc p → IsAmong (own_change x) (changes_in (suc p) None sorted)) (spans_changes table None sorted) (λ p. matched table (suc p) None sorted))

  -- those of some tables
  pub tables_true : (first : ℕ) (tables : List (List Span)) → ((i : ℕ) → i < length tables → get_or tables i [] ≡ sorted_by span_cmp (state_spans state (first + i))) → AllByRecursion (IsTrue state) (tables_changes first tables)
  tables_true first [] are = tt
  tables_true first (own ∷ tables) are =
      each_append (IsTrue state) (spans_changes first None own) (tables_changes (suc first) tables)
      (subst (λ spans. AllByRecursion (IsTrue state) (spans_changes first None spans)) (sym (are zero (omega arith) ∙ ap (λ n. sorted_by span_cmp (state_spans state n)) (plus_none first))) (table_true first))
      (tables_true (suc first) tables (λ i l. are (suc i) (omega (arith, l)) ∙ ap (λ n. sorted_by span_cmp (state_spans state n)) (plus_suc first i)))
    where
      plus_none : (n : ℕ) → n + 0 ≡ n
      plus_none n = omega arith

      plus_suc : (n i : ℕ) → n + suc i ≡ suc n + i
      plus_suc n i = omega arith

  -- ---- reasons

  module _ (tables : List Table) (catalogue : tables ≡ state.catalogue) (changes : List RowChange) (all : AllByRecursion (IsTrue state) changes) (a b : ℕ) (some_a : 0 < a) (some_b : 0 < b) where
    own_by : (t : ℕ) → 0 < t → AllByRecursion (IsChangeBy state t) (changes_by tables state.entries changes t)
    own_by t some = kept_each (IsTrue state) (IsChangeBy state t) (λ (change : RowChange). committer_of change.version state.entries == t) (λ change true_so is.
        let own = eqb-true (committer_of change.version state.entries) t is in
        subst (λ u. IsChangeBy state u change) own (true_so (subst (λ u. 0 < u) (sym own) some))) changes all

    looked : (reader k : ℕ) (change : RowChange) → list_any (meets change) (option_map_or (looks tables) (statement_at reader k state.entries) []) ≡ true → LooksAt state reader k change
    looked reader k change is = subst (λ own. list_any (meets change) (option_map_or (looks own) (statement_at reader k state.entries) []) ≡ true) catalogue is

    less_than : (n m : ℕ) → nat_lt n m ≡ true → n < m
    less_than n m e = grind (arith, nat_tests)

    at_most : (n m : ℕ) → nat_le n m ≡ true → n ≤ m
    at_most n m e = grind (arith, nat_tests)

    pub before_true : AllByRecursion (IsReason state a b) (read_before tables state.entries changes a b)
    before_true = each_of (IsReason state a b) (λ k. map (ReadBefore k) (looked_at tables state.entries changes a k (filter (λ (change : RowChange). nat_lt (statement_version a k state.entries) change.version) (changes_by tables state.entries changes b))))
        (numbers (statement_count a state.entries)) (λ k.
        mapped_each (IsReason state a b) (λ change. IsReason state a b (ReadBefore k change)) (ReadBefore k) (λ change own. own) _
        (kept_each (λ (change : RowChange). IsChangeBy state b change × (statement_version a k state.entries < change.version)) (λ change. IsReason state a b (ReadBefore k change))
        (λ change. list_any (meets change) (option_map_or (looks tables) (statement_at a k state.entries) [])) (λ change own is. (own.0, (looked a k change is, own.1))) _
        (kept_each (IsChangeBy state b) (λ (change : RowChange). IsChangeBy state b change × (statement_version a k state.entries < change.version)) (λ (change : RowChange). nat_lt (statement_version a k state.entries) change.version)
        (λ change own is. (own, less_than (statement_version a k state.entries) change.version is)) (changes_by tables state.entries changes b) (own_by b some_b))))

    after_true : AllByRecursion (IsReason state a b) (read_after tables state.entries changes a b)
    after_true = each_of (IsReason state a b) (λ k. map (ReadAfter k) (looked_at tables state.entries changes b k (filter (λ (change : RowChange). nat_le change.version (statement_version b k state.entries)) (changes_by tables state.entries changes a))))
        (numbers (statement_count b state.entries)) (λ k.
        mapped_each (IsReason state a b) (λ change. IsReason state a b (ReadAfter k change)) (ReadAfter k) (λ change own. own) _
        (kept_each (λ (change : RowChange). IsChangeBy state a change × (change.version ≤ statement_version b k state.entries)) (λ change. IsReason state a b (ReadAfter k change))
        (λ change. list_any (meets change) (option_map_or (looks tables) (statement_at b k state.entries) [])) (λ change own is. (own.0, (looked b k change is, own.1))) _
        (kept_each (IsChangeBy state a) (λ (change : RowChange). IsChangeBy state a change × (change.version ≤ statement_version b k state.entries)) (λ (change : RowChange). nat_le change.version (statement_version b k state.entries))
        (λ change own is. (own, at_most change.version (statement_version b k state.entries) is)) (changes_by tables state.entries changes a) (own_by a some_a))))

    one_row : (change other : RowChange) → same_row change other ≡ true → change.row ≡ other.row
    one_row change other is =
        let parts = and_parts (change.row.table == other.row.table) (same_identity change.row.identity other.row.identity) is in
        let tables_same = eqb-true change.row.table other.row.table parts.0 in
        let ids_same = same-exact change.row.identity other.row.identity parts.1 in
        λ i. record { table = tables_same i; identity = ids_same i }

    pub wrote_true : AllByRecursion (IsReason state a b) (wrote_before tables state.entries changes a b)
    wrote_true = each_with (IsReason state a b) (IsChangeBy state a) (λ (change : RowChange). map (Wrote change) (filter (λ (other : RowChange). same_row change other && nat_lt change.version other.version) (changes_by tables state.entries changes b)))
        (changes_by tables state.entries changes a) (own_by a some_a) (λ change made.
        mapped_each (IsReason state a b) (λ other. IsReason state a b (Wrote change other)) (Wrote change) (λ other own. own) _
        (kept_each (IsChangeBy state b) (λ other. IsReason state a b (Wrote change other)) (λ (other : RowChange). same_row change other && nat_lt change.version other.version) (λ other own is.
        let parts = and_parts (same_row change other) (nat_lt change.version other.version) is in
        (made, (own, (one_row change other parts.0, less_than change.version other.version parts.1)))) (changes_by tables state.entries changes b) (own_by b some_b)))

    abbrev whole_list : List Reason
    whole_list = read_before tables state.entries changes a b ++ (read_after tables state.entries changes a b ++ wrote_before tables state.entries changes a b)

    -- a transaction that comes before another one does so for a true reason, and its line says so
    pub step_true : is_some (version_of a state.entries) ≡ true → is_before tables state.entries changes a b ≡ true
        → IsStep state a b (step_text tables state.entries (step_of tables state.entries changes a b))
    step_true committed e = by (a == b) refl whole_list refl e
      where
        true_list : AllByRecursion (IsReason state a b) whole_list
        true_list = each_append (IsReason state a b) (read_before tables state.entries changes a b) _ before_true
            (each_append (IsReason state a b) (read_after tables state.entries changes a b) (wrote_before tables state.entries changes a b) after_true wrote_true)

        none : nat_lt 0 0 ≡ true → ⊥
        none e = less_zero (less_than 0 0 e)
          where
            less_zero : 0 < 0 → ⊥
            less_zero l = omega (arith, l)

        by : (same : Bool) → (a == b) ≡ same → (list : List Reason) → whole_list ≡ list → there_is (cond same [] list) ≡ true
            → IsStep state a b (step_text tables state.entries (record { first = a; next = b; reason = slice_get (reasons tables state.entries changes a b) 0 }))
        by true is list are e = absurd (none e)
        by false is [] are e = absurd (none e)
        by false is (reason ∷ list) are e = record {
          two = λ same. false≢true (sym is ∙ ap (λ x. a == x) (sym same) ∙ eq_itself a);
          committed = committed;
          reason = reason;
          is = (subst (AllByRecursion (IsReason state a b)) are true_list).0;
          text = λ i. step_text (catalogue i) state.entries (record { first = a; next = b; reason = (ap (λ b. slice_get (cond b [] whole_list) 0) is ∙ ap (λ list. slice_get list 0) are) i });
        }

  -- ---- cycles

  module _ (tables : List Table) (catalogue : tables ≡ state.catalogue) (changes : List RowChange) (all : AllByRecursion (IsTrue state) changes) where
    -- a transaction that committed; numbers begin with 1
    abbrev pub IsMember : ℕ → Type 0
    IsMember t = (0 < t) × (is_some (version_of t state.entries) ≡ true)

    steps_true : (first : ℕ) (list : List ℕ) → 0 < first → AllByRecursion IsMember list → closes (is_before tables state.entries changes) first list ≡ true
        → AreSteps state first list (map (step_text tables state.entries) (steps_to tables state.entries changes first list))
    steps_true first [] some each e = absurd (false≢true e)
    steps_true first (a ∷ []) some (own, each) e = step_true tables catalogue changes all a first own.0 some own.1 e
    steps_true first (a ∷ b ∷ others) some (own, each) e =
        let parts = and_parts (is_before tables state.entries changes a b) (closes (is_before tables state.entries changes) first (b ∷ others)) e in
        (step_true tables catalogue changes all a b own.0 each.0.0 own.1 parts.0, steps_true first (b ∷ others) some each parts.1)

    found_in : (P : List ℕ → Type 0) (p : List ℕ → Bool) (lists : List (List ℕ)) (list : List ℕ) → AllByRecursion P lists → find p lists ≡ Some list → P list × (p list ≡ true)
    found_in P p [] list all e = absurd (some_none list (sym e))
    found_in P p (own ∷ lists) list (here, all) e = by (p own) refl e (found_in P p lists list all)
      where
        by : (b : Bool) → p own ≡ b → cond b (Some own) (find p lists) ≡ Some list → (find p lists ≡ Some list → P list × (p list ≡ true)) → P list × (p list ≡ true)
        by true is e rest = let same = same_Some own list e in (subst P same here, subst (λ l. p l ≡ true) same is)
        by false is e rest = rest e

    positive : (n : ℕ) → AllByRecursion (λ t. 0 < t) (numbers n)
    positive zero = tt
    positive (suc n) = each_append (λ t. 0 < t) (numbers n) (suc n ∷ []) (positive n) (omega arith, tt)

    each_filter : (P : ℕ → Type 0) (p : ℕ → Bool) (xs : List ℕ) → AllByRecursion P xs → AllByRecursion (λ x. P x × (p x ≡ true)) (filter p xs)
    each_filter P p [] all = tt
    each_filter P p (x ∷ xs) (own, all) = by (p x) refl (each_filter P p xs all)
      where
        by : (b : Bool) → p x ≡ b → AllByRecursion (λ x. P x × (p x ≡ true)) (filter p xs) → AllByRecursion (λ x. P x × (p x ≡ true)) (cond b (x ∷ filter p xs) (filter p xs))
        by true is rest = ((own, is), rest)
        by false is rest = rest

    -- the transactions that committed are such
    pub numbered : AllByRecursion IsMember (by_number state.entries)
    numbered = each_filter (λ t. 0 < t) (λ t. is_some (version_of t state.entries)) (numbers (transactions_in state.entries)) (positive (transactions_in state.entries))

    -- a least cycle is one of true steps
    pub cycle_true : (first : ℕ) (others : List ℕ) → least_cycle (is_before tables state.entries changes) (by_number state.entries) ≡ first ∷ others
        → AreSteps state first (first ∷ others) (map (step_text tables state.entries) (steps_of tables state.entries changes (first ∷ others)))
    cycle_true first others is =
        by (find (is_cycle (is_before tables state.entries changes)) (flat_map (λ n. lists_of n (by_number state.entries)) (numbers (length (by_number state.entries))))) refl is
      where
        by : (found : Option (List ℕ)) → find (is_cycle (is_before tables state.entries changes)) (flat_map (λ n. lists_of n (by_number state.entries)) (numbers (length (by_number state.entries)))) ≡ found
            → unwrap_or found [] ≡ first ∷ others → AreSteps state first (first ∷ others) (map (step_text tables state.entries) (steps_of tables state.entries changes (first ∷ others)))
        by None e is = absurd (empty is)
          where
            empty : [] ≡ first ∷ others → ⊥
            empty is = absurd cc
        by (Some list) e is =
            let own = found_in (AllByRecursion IsMember) (is_cycle (is_before tables state.entries changes)) (flat_map (λ n. lists_of n (by_number state.entries)) (numbers (length (by_number state.entries)))) list
            (all_lists_in (is_before tables state.entries changes) (is_before tables state.entries changes) IsMember (λ a b one two. refl) (numbers (length (by_number state.entries))) (by_number state.entries) numbered) e in
            let each = subst (AllByRecursion IsMember) is own.0 in
            steps_true first (first ∷ others) each.0.0 each (subst (λ l. is_cycle (is_before tables state.entries changes) l ≡ true) is own.1)
