-- Spans with their annotations.
use Rattle.std.proofs.Common.{◌≡◌, ◌≢◌, ℕ, zero, suc, ◌<◌, ◌≤◌, ◌==◌, ◌&&◌, Bool, true, false, true≢false, cond, List, [], ◌∷◌, length, get_or, set, take, map, refl, sym, ap, ◌∙◌, subst, arith, Option, Some, None, unwrap_or, nat_le, slice_get}
use Rattle.std.specs.Prelude.{slice_index_or}
use Rattle.std.specs.BTreeMap.{BTreeMap, get}
use Rattle.std.specs.List.{list_any}
use Rattle.std.proofs.lemmas.Bool.Decides.{nat_tests}
use Rattle.std.proofs.lemmas.List.{get_or_past}
use Rattle.gp_base.specs.Annotated.{Annotations}
use Rattle.gp_base.specs.Identities.{Identity, identity_cmp}
use Rattle.gp_machine.specs.Annotating.{annotated, annotation_of, computed}
use Rattle.gp_machine.specs.Entries.{Log}
use Rattle.gp_versions.specs.declared.span.Span.{Span}
use Rattle.gp_versions.specs.Spans.{holds_at, is_before_end, spans_at}
use Rattle.gp_history.specs.Changes.{Finds, IsChange, ends_at, is_touched, made, changed_at, maker, renewed, renewed_at, renewed_by, renewed_span}
use Rattle.gp_history.specs.SpanAnnotations.{AreAnnotated, span_rows, versions_with}
use Rattle.std.proofs.lemmas.Bool.{eqb-true, or_parts}
use Rattle.gp_history.proofs.NarrowingLemmas.{rows_are}

-- ---- the versions that annotated spans hold

module _ {M : Type 0} (domain : Annotations M) (log : Log) (spans : ℕ → List Span) (version : ℕ) (annotations : List (List M)) (are : AreAnnotated domain log spans version annotations) where
  -- the versions of spans that were annotated are the annotated versions
  pub versions_are : versions_with spans annotations ≡ annotated domain spans (computed domain log spans version)
  versions_are = λ i. λ v table. (ap (span_rows v (spans table)) (are.tables table) ∙ rows_are v (λ span. annotation_of domain span.id (computed domain log spans version span.from table)) (spans table)) i

-- ---- a version that touches no span

ends_same : (version : ℕ) (to : Option ℕ) → ends_at (suc version) to ≡ false → is_before_end (suc version) to ≡ is_before_end version to
ends_same version None not = refl
ends_same version (Some to) not = grind (arith, nat_tests)

begins_same : (version from : ℕ) → (from == suc version) ≡ false → nat_le from (suc version) ≡ nat_le from version
begins_same version from not = grind (arith, nat_tests)

-- it has the spans of the version before
pub untouched_spans : (version : ℕ) (spans : List Span) → list_any (is_touched (suc version)) spans ≡ false → spans_at (suc version) spans ≡ spans_at version spans
untouched_spans version [] none = refl
untouched_spans version (span ∷ spans) none =
    let parts = or_parts (is_touched (suc version) span) (list_any (is_touched (suc version)) spans) none in
    let own = or_parts (span.from == suc version) (ends_at (suc version) span.to) parts.0 in
    let same : holds_at (suc version) span ≡ holds_at version span = λ i. begins_same version span.from own.0 i && ends_same version span.to own.1 i in
    λ i. cond (same i) (span ∷ untouched_spans version spans parts.1 i) (untouched_spans version spans parts.1 i)

-- ---- annotations after a commit

module _ {M : Type 0} (one : M) where
  pub renewed_more : (version : ℕ) (found : BTreeMap Identity M) (spans : List Span) (before : List M) (i : ℕ) (d : Span) → i < length spans
      → renewed one version found (take (suc i) spans) before ≡ renewed_span one version found (get_or spans i d) i (renewed one version found (take i spans) before)
  renewed_more version found [] before i d l = absurd (omega arith)
  renewed_more version found (span ∷ spans) [] zero d l = by (span.from == version)
    where
      by : (b : Bool) → [] ≡ cond b (set [] zero (unwrap_or (get identity_cmp found span.id) one)) []
      by true = refl
      by false = refl
  renewed_more version found (span ∷ spans) [] (suc i) d l = by ((get_or spans i d).from == version)
    where
      by : (b : Bool) → [] ≡ cond b (set [] (suc i) (unwrap_or (get identity_cmp found (get_or spans i d).id) one)) []
      by true = refl
      by false = refl
  renewed_more version found (span ∷ spans) (annotation ∷ before) zero d l = by (span.from == version)
    where
      by : (b : Bool) → cond b (unwrap_or (get identity_cmp found span.id) one) annotation ∷ before ≡ cond b (set (annotation ∷ before) zero (unwrap_or (get identity_cmp found span.id) one)) (annotation ∷ before)
      by true = refl
      by false = refl
  renewed_more version found (span ∷ spans) (annotation ∷ before) (suc i) d l =
      ap (λ (rest : List M). first ∷ rest) (renewed_more version found spans before i d (omega arith))
      ∙ by ((get_or spans i d).from == version)
    where
      first : M
      first = cond (span.from == version) (unwrap_or (get identity_cmp found span.id) one) annotation

      rest : List M
      rest = renewed one version found (take i spans) before

      by : (b : Bool) → first ∷ cond b (set rest i (unwrap_or (get identity_cmp found (get_or spans i d).id) one)) rest
          ≡ cond b (set (first ∷ rest) (suc i) (unwrap_or (get identity_cmp found (get_or spans i d).id) one)) (first ∷ rest)
      by true = refl
      by false = refl

same_suc : (a b : ℕ) → (a == b) ≡ (suc a == suc b)
same_suc a b = grind (arith, nat_tests)

pub renewed_nothing : {M : Type 0} (one : M) (version : ℕ) (found : BTreeMap Identity M) (spans : List Span) → renewed one version found spans [] ≡ []
renewed_nothing one version found [] = refl
renewed_nothing one version found (span ∷ spans) = refl

-- a table that is not there has nothing to renew
pub renewed_past : {M : Type 0} (one : M) (version at : ℕ) (found : BTreeMap Identity M) (spans : List Span) (old : List (List M)) → length old ≤ at
    → (table : ℕ) → get_or old table [] ≡ renewed_at one version at found spans (get_or old table []) table
renewed_past one version at found spans old past table = by (table == at) refl
  where
    by : (b : Bool) → (table == at) ≡ b → get_or old table [] ≡ cond b (renewed one version found spans (get_or old table [])) (get_or old table [])
    by true is =
        let same : table ≡ at = eqb-true table at is in
        let none : get_or old table [] ≡ [] = get_or_past old table [] (omega arith) in
        none ∙ sym (renewed_nothing one version found spans) ∙ ap (renewed one version found spans) (sym none)
    by false is = refl

get_taken : {X : Type 0} (xs : List X) (at table : ℕ) → (table == at) ≡ false → slice_get (take (suc at) xs) table ≡ slice_get (take at xs) table
get_taken [] zero table other = refl
get_taken [] (suc at) table other = refl
get_taken (x ∷ xs) zero zero other = absurd (true≢false other)
get_taken (x ∷ xs) zero (suc table) other = refl
get_taken (x ∷ xs) (suc at) zero other = refl
get_taken (x ∷ xs) (suc at) (suc table) other = get_taken xs at table (same_suc table at ∙ other)

get_last : {X : Type 0} (xs : List X) (at : ℕ) (x : X) → at < length xs → x ≡ get_or xs at x → slice_get (take (suc at) xs) at ≡ Some x
get_last [] at x less is = absurd (omega arith)
get_last (y ∷ xs) zero x less is = ap (λ z. Some z) (sym is)
get_last (y ∷ xs) (suc at) x less is = get_last xs at x (omega arith) is

get_none : {X : Type 0} (xs : List X) (at : ℕ) → slice_get (take at xs) at ≡ None
get_none [] zero = refl
get_none [] (suc at) = refl
get_none (x ∷ xs) zero = refl
get_none (x ∷ xs) (suc at) = get_none xs at

-- one more change
pub renewed_step : {M : Type 0} (one : M) (version : ℕ) (spans : ℕ → List Span) (changes : List (Option (BTreeMap Identity M))) (at : ℕ) (change : Option (BTreeMap Identity M)) → at < length changes → change ≡ get_or changes at change
    → (table : ℕ) (annotations : List M)
    → changed_at one version at change (spans at) (renewed_by one version (slice_get (take at changes) table) (spans table) annotations) table
    ≡ renewed_by one version (slice_get (take (suc at) changes) table) (spans table) annotations
renewed_step one version spans changes at change less is table annotations = by (table == at) refl
  where
    here : (table : ℕ) → table ≡ at → renewed_by one version (Some change) (spans at) (renewed_by one version (slice_get (take at changes) table) (spans table) annotations)
        ≡ renewed_by one version (slice_get (take (suc at) changes) table) (spans table) annotations
    here table same =
        subst (λ n. renewed_by one version (Some change) (spans at) (renewed_by one version (slice_get (take at changes) n) (spans n) annotations) ≡ renewed_by one version (slice_get (take (suc at) changes) n) (spans n) annotations) (sym same)
        (ap (λ o. renewed_by one version (Some change) (spans at) (renewed_by one version o (spans at) annotations)) (get_none changes at)
        ∙ ap (λ o. renewed_by one version o (spans at) annotations) (sym (get_last changes at change less is)))

    by : (b : Bool) → (table == at) ≡ b → cond b (renewed_by one version (Some change) (spans at) (renewed_by one version (slice_get (take at changes) table) (spans table) annotations)) (renewed_by one version (slice_get (take at changes) table) (spans table) annotations)
        ≡ renewed_by one version (slice_get (take (suc at) changes) table) (spans table) annotations
    by true same = here table (eqb-true table at same)
    by false other = ap (λ o. renewed_by one version o (spans table) annotations) (sym (get_taken changes at table other))

module _ {M : Type 0} (domain : Annotations M) (log : Log) (spans : ℕ → List Span) (before : ℕ) where
  abbrev noted : ℕ → ℕ → Span → M
  noted version table span = annotation_of domain span.id (computed domain log spans version span.from table)

  -- a span that begins with another version keeps its annotation
  kept_span : (table : ℕ) (span : Span) → (span.from == suc before) ≡ false → noted (suc before) table span ≡ noted before table span
  kept_span table span not = ap (λ b. annotation_of domain span.id (cond b (made domain log spans before) (computed domain log spans before span.from) table)) not

  -- one that begins with it has that of the rows that are made
  new_span : (table : ℕ) (span : Span) → (span.from == suc before) ≡ true → noted (suc before) table span ≡ annotation_of domain span.id (made domain log spans before table)
  new_span table span is = ap (λ b. annotation_of domain span.id (cond b (made domain log spans before) (computed domain log spans before span.from) table)) is

  kept_all : (table : ℕ) (all : List Span) → list_any (is_touched (suc before)) all ≡ false → map (noted before table) all ≡ map (noted (suc before) table) all
  kept_all table [] none = refl
  kept_all table (span ∷ all) none =
      let parts = or_parts (is_touched (suc before) span) (list_any (is_touched (suc before)) all) none in
      let own = or_parts (span.from == suc before) (ends_at (suc before) span.to) parts.0 in
      λ i. sym (kept_span table span own.0) i ∷ kept_all table all parts.1 i

  new_all : (table : ℕ) (found : BTreeMap Identity M) (all : List Span) → Finds domain (suc before) found all (made domain log spans before table)
      → renewed domain.one (suc before) found all (map (noted before table) all) ≡ map (noted (suc before) table) all
  new_all table found [] finds = refl
  new_all table found (span ∷ all) finds = λ i. by (span.from == suc before) refl i ∷ new_all table found all finds.1 i
    where
      by : (b : Bool) → (span.from == suc before) ≡ b → cond b (unwrap_or (get identity_cmp found span.id) domain.one) (noted before table span) ≡ noted (suc before) table span
      by true is = finds.0 is ∙ sym (new_span table span is)
      by false is = sym (kept_span table span is)

  -- the changes of all tables that have spans annotate the next version
  pub next_are : (changes : List (Option (BTreeMap Identity M))) (old new : List (List M))
      → ((table : ℕ) → (change : Option (BTreeMap Identity M)) → slice_get changes table ≡ Some change → IsChange domain log (maker log before) (suc before) table (spans table) (made domain log spans before table) change)
      → ((table : ℕ) → slice_get changes table ≡ None → spans table ≡ [])
      → AreAnnotated domain log spans before old
      → ((table : ℕ) → slice_index_or new table [] ≡ renewed_by domain.one (suc before) (slice_get changes table) (spans table) (slice_index_or old table []))
      → AreAnnotated domain log spans (suc before) new
  next_are changes old new each beyond are renews = record { tables = λ table. renews table ∙ by table (slice_get changes table) refl }
    where
      by : (table : ℕ) (change : Option (Option (BTreeMap Identity M))) → slice_get changes table ≡ change
          → renewed_by domain.one (suc before) change (spans table) (slice_index_or old table []) ≡ map (noted (suc before) table) (spans table)
      by table None is =
          let none = beyond table is in
          are.tables table ∙ subst (λ (all : List Span). map (noted before table) all ≡ map (noted (suc before) table) all) (sym none) refl
      by table (Some None) is = are.tables table ∙ kept_all table (spans table) (each table None is).untouched
      by table (Some (Some found)) is = ap (renewed domain.one (suc before) found (spans table)) (are.tables table) ∙ new_all table found (spans table) (each table (Some found) is)
