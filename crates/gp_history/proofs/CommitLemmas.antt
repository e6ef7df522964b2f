-- Commit by commit: what becomes of each table, and the first stop.
use Rattle.std.proofs.Common.{◌≡◌, ℕ, zero, suc, ◌<◌, ◌≤◌, ◌==◌, ◌⊎◌, inl, inr, ◌||◌, Bool, true, false, true≢false, cond, List, [], ◌∷◌, ◌++◌, length, map, refl, sym, ap, ◌∙◌, subst, arith, Option, Some, None, Result, Ok, Err, unwrap_or, slice_get, length-append}
use Rattle.std.specs.Prelude.{is_some}
use Rattle.std.specs.BTreeMap.{BTreeMap, get}
use Rattle.std.specs.List.{list_any}
use Rattle.std.specs.List.Sorted.{IsPermutation}
use Rattle.std.specs.Option.{option_map, option_or}
use Rattle.std.proofs.Math.Nat.{eq-or-lt_of_le}
use Rattle.std.proofs.lemmas.List.Sorted.{IsPermutation-map, IsPermutation-refl}
use Rattle.gp_base.proofs.Bags.{SameBag, any_same, first, mapped, none, swapped, through}
use Rattle.gp_base.proofs.Permutations.{unpermuted}
use Rattle.gp_algebra.specs.Stops.{Stop}
use Rattle.gp_base.specs.declared.refusal.Refusal.{Refusal}
use Rattle.gp_base.specs.declared.refusal.Refusal.TheVariants.{E24, E25, E26}
use Rattle.gp_base.specs.declared.table.Table.{Table}
use Rattle.gp_base.specs.Annotated.{Annotated, Annotations, Database, unannotated}
use Rattle.gp_base.specs.Identities.{Identity, identity_cmp, same_identity}
use Rattle.gp_compose.specs.Composed.{last_write}
use Rattle.gp_log.proofs.FittingLogs.{statement_at_fits}
use Rattle.gp_log.specs.Parameters.{parameters}
use Rattle.gp_log.specs.LogFacts.{tables_in}
use Rattle.gp_log.specs.LogFitting.{SpansFit, statements_fit}
use Rattle.gp_machine.specs.Annotating.{annotation_of, computed}
use Rattle.gp_machine.specs.QuestionForms.{identified}
use Rattle.gp_machine.specs.Committed.{unmarked}
use Rattle.gp_machine.specs.Entries.{Entry, Log, log_of}
use Rattle.gp_machine.specs.Event.{name_at}
use Rattle.gp_machine.specs.Points.{RunStop}
use Rattle.gp_machine.specs.Questions.{annotation_stop, difference_refusal, stop_refusal}
use Rattle.gp_machine.specs.SeenRows.{AreDistinct, HaveDifferentIdentities}
use Rattle.gp_machine.proofs.Distinct.{none_any}
use Rattle.gp_machine.proofs.Simulation.{annotation_same}
use Rattle.gp_reenact.proofs.ReplayLemmas.{refusal_at, run_refused}
use Rattle.gp_reenact.proofs.StopLemmas.{step_stop}
use Rattle.gp_versions.specs.declared.span.Span.{Span}
use Rattle.gp_versions.specs.Spans.{row_of, rows_at, spans_at}
use Rattle.gp_versions.specs.TableSpans.{AreOfDifferentRows, NoOverlap}
use Rattle.gp_versions.proofs.HeldLemmas.{held-differ}
use Rattle.gp_versions.proofs.SameLemmas.{same-sym}
use Rattle.gp_history.specs.declared.error.HistoryStop.{HistoryStop}
use Rattle.gp_history.specs.declared.error.HistoryStop.TheVariants.{Inconsistent, Rows, Ancestry, NoMemory}
use Rattle.gp_history.specs.Agreement.{agree, key_of, keys_agree}
use Rattle.gp_history.specs.Annotating.{Annotates}
use Rattle.gp_history.specs.Changes.{AreChanges, AreNotes, ChangesTable, Finds, FindsRows, IsChange, IsKept, are_noted, commit_stop, held, is_noted, limited_to, made, maker, maker_stop, past, past_of, published_whole, stop_within}
use Rattle.gp_history.specs.Images.{IsImage}
use Rattle.gp_history.specs.Matching.{keys_of}
use Rattle.gp_history.specs.Noted.{first_noted, first_written}
use Rattle.gp_history.proofs.AgreementLemmas.{agree_from, agree_is, keys_moved}
use Rattle.gp_history.proofs.ImageLemmas.{kept_is}
use Rattle.gp_history.proofs.NotedLemmas.{noted_is, written_is}
use Rattle.gp_history.proofs.SpanLemmas.{untouched_spans}
use Rattle.gp_history.proofs.TableLemmas.{never_stops}
use Rattle.std.proofs.lemmas.Bool.{and_parts, or_parts}
use Rattle.gp_base.proofs.SmallLemmas.{any-map, each_map, eq_itself, map-map}

-- ---- identities that differ

sym_same : (a b : Identity) → same_identity a b ≡ false → same_identity b a ≡ false
sym_same a b not = by (same_identity b a) refl
  where
    by : (c : Bool) → same_identity b a ≡ c → c ≡ false
    by true is = absurd (true≢false (sym (same-sym b a is) ∙ not))
    by false is = refl

distinct_bag : {xs ys : List Identity} → SameBag xs ys → AreDistinct same_identity ys → AreDistinct same_identity xs
distinct_bag none d = d
distinct_bag (first {x = x} s) d = (any_same (λ other. same_identity other x) s ∙ d.0, distinct_bag s d.1)
distinct_bag (swapped {x = x} {y = y} {xs = xs}) d =
    let parts = or_parts (same_identity x y) (list_any (λ other. same_identity other y) xs) d.0 in
    ((λ i. sym_same x y parts.0 i || d.1.0 i), (parts.1, d.1.1))
distinct_bag (through s t) d = distinct_bag s (distinct_bag t d)

abbrev ids : {M : Type 0} → List (Annotated M) → List Identity
ids rows = map (λ row. row.identity) rows

module _ {M : Type 0} where
  ids_differ : (rows : List (Annotated M)) → HaveDifferentIdentities rows → AreDistinct same_identity (ids rows)
  ids_differ [] d = tt
  ids_differ (row ∷ rows) d = (any-map (λ other. same_identity other row.identity) (λ row. row.identity) rows ∙ d.0, ids_differ rows d.1)

  rows_differ : (rows : List (Annotated M)) → AreDistinct same_identity (ids rows) → HaveDifferentIdentities rows
  rows_differ [] d = tt
  rows_differ (row ∷ rows) d = (sym (any-map (λ other. same_identity other row.identity) (λ row. row.identity) rows) ∙ d.0, rows_differ rows d.1)

-- a version has no row twice
held_differ : {M : Type 0} (domain : Annotations M) (spans : List Span) → AreOfDifferentRows spans → HaveDifferentIdentities (map (row_of domain) spans)
held_differ domain [] d = tt
held_differ domain (span ∷ spans) d = (
  none_any (λ other. same_identity other.identity span.id) (map (row_of domain) spans)
      (each_map (λ row. same_identity row.identity span.id ≡ false) (λ (other : Span). same_identity span.id other.id ≡ false) (row_of domain) (λ other not. sym_same span.id other.id not) spans d.0),
  held_differ domain spans d.1,
)

-- ---- marks do not matter

module _ {M : Type 0} (all : List (Annotated M)) where
  pub unmarked_keys : map key_of (map unmarked all) ≡ map key_of all
  unmarked_keys = map-map key_of unmarked all

  unmarked_identified : identified (map unmarked all) ≡ identified all
  unmarked_identified = map-map (λ row. (row.identity, row.cells)) unmarked all

unmarked_annotation : {M : Type 0} (domain : Annotations M) (id : Identity) (all : List (Annotated M)) → annotation_of domain id (map unmarked all) ≡ annotation_of domain id all
unmarked_annotation domain id [] = refl
unmarked_annotation domain id (row ∷ all) = ap (cond (same_identity row.identity id) row.annotation) (unmarked_annotation domain id all)

-- keys have no annotations
pub keys_same : {M : Type 0} (domain : Annotations M) (version : ℕ) (spans : List Span) → keys_of version spans ≡ map key_of (rows_at domain version spans)
keys_same domain version spans = map-map key_of (row_of unannotated) (spans_at version spans) ∙ sym (map-map key_of (row_of domain) (spans_at version spans))

-- ---- stops

pub stop_none : (stop : Option RunStop) → option_map step_stop stop ≡ None → stop ≡ None
stop_none None e = refl
stop_none (Some stop) e = absurd (cc)

-- the first table that differs
difference_first : {M : Type 0} (domain : Annotations M) (catalogue : List Table) (version count n : ℕ) (db other : Database M) → count < n
    → difference_refusal domain parameters agree catalogue version count db other ≡ None → agree (db count) (other count) ≡ false
    → difference_refusal domain parameters agree catalogue version n db other ≡ Some (E24 version (name_at count catalogue))
difference_first domain catalogue version count zero db other less same not = absurd (omega arith)
difference_first domain catalogue version count (suc n) db other less same not =
    by (eq-or-lt_of_le (omega arith)) (λ lower. difference_first domain catalogue version count n db other lower same not)
  where
    by : (count ≡ n) ⊎ (count < n) → (count < n → difference_refusal domain parameters agree catalogue version n db other ≡ Some (E24 version (name_at count catalogue)))
        → difference_refusal domain parameters agree catalogue version (suc n) db other ≡ Some (E24 version (name_at count catalogue))
    by (inl is) earlier =
        subst (λ m. difference_refusal domain parameters agree catalogue version (suc m) db other ≡ Some (E24 version (name_at count catalogue))) is
        (λ i. option_or (same i) (cond (not i) None (Some (E24 version (name_at count catalogue)))))
    by (inr lower) earlier = ap (λ o. option_or o (cond (agree (db n) (other n)) None (Some (E24 version (name_at n catalogue))))) (earlier lower)

-- ---- lists

-- an item of a list with one more behind
pub pushed : {X : Type 0} (xs : List X) (x : X) (k n : ℕ) (y : X) → length xs ≡ n → slice_get (xs ++ x ∷ []) k ≡ Some y → (slice_get xs k ≡ Some y) ⊎ ((k ≡ n) × (x ≡ y))
pushed [] x zero n y count is = inr (count, cc)
pushed [] x (suc k) n y count is = absurd (cc)
pushed (z ∷ xs) x zero n y count is = inl is
pushed (z ∷ xs) x (suc k) zero y count is = absurd (omega arith)
pushed (z ∷ xs) x (suc k) (suc n) y count is = by (pushed xs x k n y (omega arith) is)
  where
    by : (slice_get xs k ≡ Some y) ⊎ ((k ≡ n) × (x ≡ y)) → (slice_get (z ∷ xs) (suc k) ≡ Some y) ⊎ ((suc k ≡ suc n) × (x ≡ y))
    by (inl here) = inl here
    by (inr last) = inr (ap suc last.0, last.1)

-- ---- annotations of rows

-- notes of rows that stand for these, none of them twice, have the annotations of these
module _ {M : Type 0} (domain : Annotations M) (version : ℕ) (rows all : List (Annotated M)) (bag : SameBag rows all) (differ : HaveDifferentIdentities all) where
  annotation_is : (id : Identity) → annotation_of domain id rows ≡ annotation_of domain id (map unmarked all)
  annotation_is id = annotation_same domain id rows all bag differ ∙ sym (unmarked_annotation domain id all)

  annotations : (id : Identity) → unwrap_or (first_noted id rows) domain.one ≡ annotation_of domain id (map unmarked all)
  annotations id = noted_is domain id rows ∙ annotation_is id

  -- of a row that the transaction wrote
  written : (id : Identity) (annotation : M) → first_written id rows ≡ Some annotation → annotation ≡ annotation_of domain id (map unmarked all)
  written id annotation is =
      sym (written_is domain id rows (rows_differ rows (distinct_bag (mapped (λ (row : Annotated M). row.identity) bag) (ids_differ all differ))) annotation is)
      ∙ annotation_is id

  noted_span : (notes : BTreeMap Identity M) → ((id : Identity) → get identity_cmp notes id ≡ first_written id rows) → (span : Span) → is_noted version notes span ≡ true
      → (span.from == version) ≡ true → unwrap_or (get identity_cmp notes span.id) domain.one ≡ annotation_of domain span.id (map unmarked all)
  noted_span notes finds span is begins =
      by_note (get identity_cmp notes span.id) (finds span.id) (sym (ap (λ b. cond b (is_some (get identity_cmp notes span.id)) true) begins) ∙ is)
    where
      by_note : (o : Option M) → o ≡ first_written span.id rows → is_some o ≡ true → unwrap_or o domain.one ≡ annotation_of domain span.id (map unmarked all)
      by_note None at there = absurd (true≢false (sym there))
      by_note (Some annotation) at there = written span.id annotation (sym at)

  all_noted : (notes : BTreeMap Identity M) → ((id : Identity) → get identity_cmp notes id ≡ first_written id rows) → (spans : List Span) → are_noted version notes spans ≡ true
      → Finds domain version notes spans (map unmarked all)
  all_noted notes finds [] there = tt
  all_noted notes finds (span ∷ spans) there =
      let parts = and_parts (is_noted version notes span) (are_noted version notes spans) there in
      (λ begins. noted_span notes finds span parts.0 begins, all_noted notes finds spans parts.1)

  each_noted : (notes : BTreeMap Identity M) → ((id : Identity) → get identity_cmp notes id ≡ first_noted id rows) → (spans : List Span) → Finds domain version notes spans (map unmarked all)
  each_noted notes finds [] = tt
  each_noted notes finds (span ∷ spans) = (λ begins. ap (λ o. unwrap_or o domain.one) (finds span.id) ∙ annotations span.id, each_noted notes finds spans)

  pub notes_found : (notes : BTreeMap Identity M) (spans : List Span) → AreNotes rows spans version notes → Finds domain version notes spans (map unmarked all)
  notes_found notes spans (inl every) = each_noted notes every spans
  notes_found notes spans (inr some) = all_noted notes some.0 spans some.1

-- ---- one commit

module _ {M : Type 0} (domain : Annotations M) (entries : List Entry) (spans : ℕ → List Span) (before : ℕ) where
  abbrev log : Log
  log = log_of entries

  -- what agrees with the spans of a version has no row twice
  pub published_differ : (table : ℕ) → NoOverlap (spans table) → agree (made domain log spans before table) (held domain log spans before table) ≡ true
      → HaveDifferentIdentities (published_whole domain log spans before table)
  published_differ table apart same =
      let bag : SameBag (identified (made domain log spans before table)) (identified (held domain log spans before table)) =
      unpermuted (identified (made domain log spans before table)) (identified (held domain log spans before table)) (agree_is (made domain log spans before table) (held domain log spans before table) same) in
      rows_differ (published_whole domain log spans before table)
      (distinct_bag
      (subst (λ (own : List Identity). SameBag own (ids (held domain log spans before table))) (map-map (λ p. p.0) (λ row. (row.identity, row.cells)) (map unmarked (published_whole domain log spans before table)) ∙ map-map (λ row. row.identity) unmarked (published_whole domain log spans before table))
      (subst (λ (own : List Identity). SameBag (map (λ p. p.0) (identified (made domain log spans before table))) own) (map-map (λ p. p.0) (λ row. (row.identity, row.cells)) (held domain log spans before table))
      (mapped (λ p. p.0) bag)))
      (ids_differ (held domain log spans before table) (held_differ domain (spans_at (suc before) (spans table)) (held-differ (suc before) (spans table) apart))))

  -- computed rows, in any order, say what becomes of their table
  pub rows_change : (table : ℕ) → NoOverlap (spans table) → (rows : List (Annotated M)) → IsPermutation rows (published_whole domain log spans before table) → maker_stop domain log spans before ≡ None
      → (result : Result (Option (BTreeMap Identity M)) HistoryStop) → FindsRows rows (spans table) (suc before) table result → ChangesTable domain log spans before table result
  rows_change table apart rows moved no_stop result finds = by result finds
    where
      keys : keys_agree (map key_of rows) (keys_of (suc before) (spans table)) ≡ agree (made domain log spans before table) (held domain log spans before table)
      keys =
          keys_moved (map key_of rows) (map key_of (published_whole domain log spans before table)) (keys_of (suc before) (spans table)) (IsPermutation-map key_of rows (published_whole domain log spans before table) moved)
          ∙ (λ i. keys_agree (sym (unmarked_keys (published_whole domain log spans before table)) i) (keys_same domain (suc before) (spans table) i))

      notes_are : agree (made domain log spans before table) (held domain log spans before table) ≡ true → (notes : BTreeMap Identity M) → AreNotes rows (spans table) (suc before) notes
          → Finds domain (suc before) notes (spans table) (made domain log spans before table)
      notes_are same notes are =
          notes_found domain (suc before) rows (published_whole domain log spans before table) (unpermuted rows (published_whole domain log spans before table) moved)
          (published_differ table apart same) notes (spans table) are

      by : (result : Result (Option (BTreeMap Identity M)) HistoryStop) → FindsRows rows (spans table) (suc before) table result → ChangesTable domain log spans before table result
      by (Ok None) finds = absurd finds
      by (Ok (Some notes)) finds =
          let same = sym keys ∙ finds.0 in
          (no_stop, (same, notes_are same notes finds.1))
      by (Err (Inconsistent version own)) finds = (no_stop, (sym keys ∙ finds.0, finds.1))
      by (Err (Rows t k)) finds = absurd finds
      by (Err (Ancestry t k)) finds = absurd finds
      by (Err NoMemory) finds = tt

  -- a program that stops, stops its commit
  pub stops_change : (few : ℕ → List Span) (most : ℕ) (stop : Stop) → option_map step_stop (stop_within domain log spans before few most) ≡ Some stop
      → option_map stop_refusal (stop_within domain log spans before few most) ≡ Some (refusal_at (maker log before) stop)
  stops_change few most stop is =
      run_refused domain (limited_to most) log (maker log before) (past_of domain log spans before few) (log.statement_count (maker log before)) ∙ ap (option_map (refusal_at (maker log before))) is

  -- ---- all tables

  abbrev differs : ℕ → Option Refusal
  differs count = difference_refusal domain parameters agree (tables_in entries) (suc before) count (made domain log spans before) (held domain log spans before)

  -- the first tables, this many, agree
  pub record Partly (count : ℕ) (changes : List (Option (BTreeMap Identity M))) : Type 0 where
    pub many : length changes ≡ count
    pub each : (table : ℕ) (change : Option (BTreeMap Identity M)) → slice_get changes table ≡ Some change → IsChange domain log (maker log before) (suc before) table (spans table) (made domain log spans before table) change
    pub same : differs count ≡ None
    pub stop : (maker_stop domain log spans before ≡ None) ⊎ ((table : ℕ) → table < count → last_write log (maker log before) (log.statement_count (maker log before)) table ≡ None)

  module _ (image : IsImage domain) (fit : statements_fit (tables_in entries) entries ≡ true) (spans_fit : SpansFit (tables_in entries) spans) where
    -- a table that is kept agrees
    kept_agrees : (table : ℕ) → IsKept log (maker log before) (suc before) table (spans table) → agree (made domain log spans before table) (held domain log spans before table) ≡ true
    kept_agrees table kept =
        agree_from (made domain log spans before table) (held domain log spans before table)
        (subst (λ own. IsPermutation own (identified (held domain log spans before table))) (sym same) (IsPermutation-refl (identified (held domain log spans before table))))
      where
        same : identified (made domain log spans before table) ≡ identified (held domain log spans before table)
        same =
            unmarked_identified (published_whole domain log spans before table)
            ∙ ap identified (kept_is domain image entries spans spans fit spans_fit before (maker log before) before table kept.unwritten)
            ∙ map-map (λ row. (row.identity, row.cells)) _ (spans_at before (spans table))
            ∙ ap (map (λ (span : Span). (span.id, span.row))) (sym (untouched_spans before (spans table) kept.untouched))
            ∙ sym (map-map (λ row. (row.identity, row.cells)) (row_of domain) (spans_at (suc before) (spans table)))

    -- one more table
    pub partly_more : (count : ℕ) (changes : List (Option (BTreeMap Identity M))) (change : Option (BTreeMap Identity M)) → Partly count changes
        → ChangesTable domain log spans before count (Ok change) → Partly (suc count) (changes ++ change ∷ [])
    partly_more count changes change partly changed = record {
      many = omega (arith, length-append changes (change ∷ []), partly.many);
      each = λ table other is. each_more table other is (below_or_last table other is);
      same = by change changed;
      stop = stopping change changed;
    }
      where
        below_or_last : (table : ℕ) (other : Option (BTreeMap Identity M)) → slice_get (changes ++ change ∷ []) table ≡ Some other
            → (slice_get changes table ≡ Some other) ⊎ ((table ≡ count) × (change ≡ other))
        below_or_last table other is = pushed changes change table count other partly.many is

        own : (change : Option (BTreeMap Identity M)) → ChangesTable domain log spans before count (Ok change)
            → IsChange domain log (maker log before) (suc before) count (spans count) (made domain log spans before count) change
        own None changed = changed
        own (Some found) changed = changed.1.1

        each_more : (table : ℕ) (other : Option (BTreeMap Identity M)) → slice_get (changes ++ change ∷ []) table ≡ Some other
            → (slice_get changes table ≡ Some other) ⊎ ((table ≡ count) × (change ≡ other))
            → IsChange domain log (maker log before) (suc before) table (spans table) (made domain log spans before table) other
        each_more table other is (inl earlier) = partly.each table other earlier
        each_more table other is (inr last) =
            subst (λ n. IsChange domain log (maker log before) (suc before) n (spans n) (made domain log spans before n) other) (sym last.0)
            (subst (λ o. IsChange domain log (maker log before) (suc before) count (spans count) (made domain log spans before count) o) last.1 (own change changed))

        agreed : agree (made domain log spans before count) (held domain log spans before count) ≡ true → differs (suc count) ≡ None
        agreed same = λ i. option_or (partly.same i) (cond (same i) None (Some (E24 (suc before) (name_at count (tables_in entries)))))

        by : (change : Option (BTreeMap Identity M)) → ChangesTable domain log spans before count (Ok change) → differs (suc count) ≡ None
        by None changed = agreed (kept_agrees count changed)
        by (Some found) changed = agreed changed.1.0

        stopping : (change : Option (BTreeMap Identity M)) → ChangesTable domain log spans before count (Ok change)
            → (maker_stop domain log spans before ≡ None) ⊎ ((table : ℕ) → table < suc count → last_write log (maker log before) (log.statement_count (maker log before)) table ≡ None)
        stopping (Some found) changed = inl changed.0
        stopping None changed = earlier partly.stop
          where
            earlier : (maker_stop domain log spans before ≡ None) ⊎ ((table : ℕ) → table < count → last_write log (maker log before) (log.statement_count (maker log before)) table ≡ None)
                → (maker_stop domain log spans before ≡ None) ⊎ ((table : ℕ) → table < suc count → last_write log (maker log before) (log.statement_count (maker log before)) table ≡ None)
            earlier (inl never) = inl never
            earlier (inr unwritten) = inr (λ table less. at table (eq-or-lt_of_le (omega arith)) unwritten)
              where
                at : (table : ℕ) → (table ≡ count) ⊎ (table < count) → ((table : ℕ) → table < count → last_write log (maker log before) (log.statement_count (maker log before)) table ≡ None)
                    → last_write log (maker log before) (log.statement_count (maker log before)) table ≡ None
                at table (inl is) unwritten = subst (λ n. last_write log (maker log before) (log.statement_count (maker log before)) n ≡ None) (sym is) changed.unwritten
                at table (inr less) unwritten = unwritten table less

    -- a stop of the next table is that of the commit
    pub partly_stop : {X : Type 0} (P : X → Type 0) (count : ℕ) (changes : List (Option (BTreeMap Identity M))) (stop : HistoryStop) → Partly count changes → count < length (tables_in entries)
        → ChangesTable domain log spans before count (Err stop) → Annotates {X = X} P (tables_in entries) (Err stop) (commit_stop domain log spans before (tables_in entries))
    partly_stop P count changes (Inconsistent version table) partly less changed = (
      (λ i. option_or (option_map stop_refusal (changed.0 i))
          (difference_first domain (tables_in entries) (suc before) count (length (tables_in entries)) (made domain log spans before) (held domain log spans before) less partly.same changed.1.0 i))
          ∙ sym (λ i. Some (E24 (changed.1.1.0 i) (name_at (changed.1.1.1 i) (tables_in entries)))),
      subst (λ n. n < length (tables_in entries)) (sym changed.1.1.1) less,
    )
    partly_stop P count changes (Rows t k) partly less changed = ap (λ o. option_or o (differs (length (tables_in entries)))) changed
    partly_stop P count changes (Ancestry t k) partly less changed = ap (λ o. option_or o (differs (length (tables_in entries)))) changed
    partly_stop P count changes NoMemory partly less changed = tt

    -- all tables
    pub partly_all : (count : ℕ) (changes : List (Option (BTreeMap Identity M))) → Partly count changes → count ≡ length (tables_in entries)
        → (commit_stop domain log spans before (tables_in entries) ≡ None) × AreChanges domain log spans before (length (tables_in entries)) changes
    partly_all count changes partly is = (
      (λ i. option_or (option_map stop_refusal (stop partly.stop i)) (same i)),
      record { many = partly.many ∙ is; each = partly.each },
    )
      where
        same : differs (length (tables_in entries)) ≡ None
        same = subst (λ n. differs n ≡ None) is partly.same

        stop : (maker_stop domain log spans before ≡ None) ⊎ ((table : ℕ) → table < count → last_write log (maker log before) (log.statement_count (maker log before)) table ≡ None) → maker_stop domain log spans before ≡ None
        stop (inl never) = never
        stop (inr unwritten) =
            never_stops domain (tables_in entries) log (maker log before) (past domain log spans before)
            (λ k statement e. statement_at_fits (tables_in entries) entries fit (maker log before) k statement e) (log.statement_count (maker log before))
            (λ table less. unwritten table (omega arith))

-- ---- commit by commit

module _ {M : Type 0} (domain : Annotations M) (catalogue : List Table) (log : Log) (spans : ℕ → List Span) where
  abbrev stop_upto : ℕ → Option Refusal
  stop_upto u = annotation_stop domain parameters agree catalogue log spans u

  stop_more : (u : ℕ) → stop_upto (suc u) ≡ option_or (stop_upto u) (commit_stop domain log spans u catalogue)
  stop_more u =
      ap (λ (db : Database M). option_or (stop_upto u) (option_or (option_map stop_refusal (maker_stop domain log spans u)) (difference_refusal domain parameters agree catalogue (suc u) (length catalogue) db (held domain log spans u))))
      (ap (λ b. cond b (made domain log spans u) (computed domain log spans u (suc u))) (eq_itself (suc u)))

  -- no stop up to the next version
  pub stop_none_more : (u : ℕ) → stop_upto u ≡ None → commit_stop domain log spans u catalogue ≡ None → stop_upto (suc u) ≡ None
  stop_none_more u before now = stop_more u ∙ (λ i. option_or (before i) (now i))

  -- the first stop
  stop_first : (u v : ℕ) (refusal : Refusal) → suc u ≤ v → stop_upto u ≡ None → commit_stop domain log spans u catalogue ≡ Some refusal → stop_upto v ≡ Some refusal
  stop_first u zero refusal less before now = absurd (omega arith)
  stop_first u (suc v) refusal less before now = by (eq-or-lt_of_le (omega arith)) (λ lower. stop_first u v refusal lower before now)
    where
      by : (u ≡ v) ⊎ (u < v) → (suc u ≤ v → stop_upto v ≡ Some refusal) → stop_upto (suc v) ≡ Some refusal
      by (inl is) earlier = subst (λ n. stop_upto (suc n) ≡ Some refusal) is (stop_more u ∙ (λ i. option_or (before i) (now i)))
      by (inr lower) earlier = stop_more v ∙ ap (λ o. option_or o (commit_stop domain log spans v catalogue)) (earlier lower)

  pub stop_stays : {X Y : Type 0} (P : X → Type 0) (Q : Y → Type 0) (u v : ℕ) (stop : HistoryStop) → suc u ≤ v → stop_upto u ≡ None
      → Annotates {X = X} P catalogue (Err stop) (commit_stop domain log spans u catalogue) → Annotates {X = Y} Q catalogue (Err stop) (stop_upto v)
  stop_stays P Q u v (Inconsistent version table) less before now = (stop_first u v (E24 version (name_at table catalogue)) less before now.0, now.1)
  stop_stays P Q u v (Rows t k) less before now = stop_first u v (E25 t k) less before now
  stop_stays P Q u v (Ancestry t k) less before now = stop_first u v (E26 t k) less before now
  stop_stays P Q u v NoMemory less before now = tt
