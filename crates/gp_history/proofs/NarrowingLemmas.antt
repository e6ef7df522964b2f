-- The versions of the row versions that are left narrow those of all: the premises of the laws on what a transaction reads of fewer rows.
use Rattle.std.proofs.Common.{◌≡◌, inl, inr, ℕ, suc, ◌+◌, ◌<◌, ◌≤◌, ◌==◌, ◌⊎◌, Bool, true, false, cond, List, [], ◌∷◌, length, map, refl, sym, ap, ◌∙◌, subst, arith, Option, Some, None, nat_le}
use Rattle.std.specs.Prelude.{◌&&◌, ◌||◌, not, filter, nat_lt, slice_index_or, unwrap_or}
use Rattle.std.specs.BTreeMap.{BTreeMap, get}
use Rattle.std.specs.List.{AllByRecursion, list_all, list_any}
use Rattle.std.proofs.lemmas.Bool.{and_parts, eqb-true, false≢true, le-leb}
use Rattle.std.proofs.lemmas.Bool.Decides.{nat_tests}
use Rattle.std.proofs.lemmas.Map.Views.{any-filter_same}
use Rattle.gp_base.specs.declared.cell.Cell.{Cell}
use Rattle.gp_base.specs.declared.limit.TheConstants.{MAX_TABLE_ROWS}
use Rattle.gp_base.specs.Annotated.{Annotated, Annotations, Environment}
use Rattle.gp_base.specs.IdentityParts.{identity_transaction}
use Rattle.gp_base.specs.Identities.{Identity, Sources, identity, identity_cmp, same_identity}
use Rattle.gp_base.proofs.SmallLemmas.{each_map, eq_itself, filter-map, length-map}
use Rattle.gp_expr.specs.Expressions.{Cond}
use Rattle.gp_expr.specs.Values.{passes}
use Rattle.gp_algebra.specs.Statements.{Branch, Select, Statement, delete, insert, insert_select, read, update}
use Rattle.gp_machine.specs.Annotating.{annotated, annotated_row, annotation_of, computed}
use Rattle.gp_machine.specs.Entries.{Log}
use Rattle.gp_machine.proofs.Distinct.{each_all, each_both, each_filter, each_weaker, filter-filter, filter_each, filter_none, none_any}
use Rattle.gp_versions.specs.declared.span.Span.{Span}
use Rattle.gp_versions.specs.Spans.{holds_at, is_before_end, spans_at}
use Rattle.gp_versions.specs.TableSpans.{AreOfDifferentRows, AreWhole, IsEndAbove, NoOverlap}
use Rattle.gp_versions.proofs.HeldLemmas.{held-differ}
use Rattle.gp_versions.proofs.SameLemmas.{same-exact, same-itself, same-sym}
use Rattle.gp_history.specs.Changes.{Finds, ends_at, is_touched}
use Rattle.gp_history.specs.Narrowing.{IsNarrow, IsPart, IsRead, at_end, chosen_with, inserts_into, is_among, is_refused, leaves, narrow_annotations, narrow_spans, narrow_versions, of_commit, skips}
use Rattle.gp_history.specs.SpanAnnotations.{AreAnnotated, span_row, span_rows}
use Rattle.gp_history.specs.declared.narrowed.Narrowed.{Narrowed}
use Rattle.gp_history.proofs.NarrowLemmas.{ArePassedOver, AreUnmarked, HasRoom, Leaves, Narrows, Skips, SkipsOne, not_false}
use Rattle.gp_kexec.proofs.DeletionLemmas.{filter_crossed}

-- ---- lists

-- what holds of the elements that pass holds of each that passes
each_unfiltered : {X : Type 0} (P : X → Type 0) (p : X → Bool) (xs : List X) → AllByRecursion P (filter p xs) → AllByRecursion (λ x. p x ≡ true → P x) xs
each_unfiltered P p [] all = tt
each_unfiltered P p (x ∷ xs) all =
    elim (p x) as (λ b. p x ≡ b → AllByRecursion P (cond b (x ∷ filter p xs) (filter p xs)) → (p x ≡ true → P x) × AllByRecursion (λ x. p x ≡ true → P x) xs) [
      | true ↦ λ is all. (λ passes. all.0, each_unfiltered P p xs all.1)
      | false ↦ λ is all. (λ passes. absurd (false≢true (sym is ∙ passes)), each_unfiltered P p xs all)
    ] refl all

-- a test finds the same among those that pass another one, if it finds only such
any_passing : {X : Type 0} (p q : X → Bool) (xs : List X) → AllByRecursion (λ x. p x ≡ true → q x ≡ true) xs → list_any p (filter q xs) ≡ list_any p xs
any_passing p q [] all = refl
any_passing p q (x ∷ xs) all =
    elim (q x) as (λ b. (p x ≡ true → b ≡ true) → list_any p (cond b (x ∷ filter q xs) (filter q xs)) ≡ (p x || list_any p xs)) [
      | true ↦ λ follows. ap (λ b. p x || b) (any_passing p q xs all.1)
      | false ↦ λ follows. any_passing p q xs all.1 ∙ (λ i. nothing (p x) follows i || list_any p xs)
    ] all.0
  where
    nothing : (b : Bool) → (b ≡ true → false ≡ true) → false ≡ b
    nothing true follows = follows refl
    nothing false follows = refl

is_false : (b : Bool) → (b ≡ true → ⊥) → b ≡ false
is_false true out = absurd (out refl)
is_false false out = refl

-- where all that pass are ruled out, nothing passes
passing_none : {X : Type 0} (p : X → Bool) (xs : List X) → ((x : X) → p x ≡ true → ⊥) → filter p xs ≡ []
passing_none p xs out = filter_none p xs (each_all (λ x. p x ≡ false) (λ x. is_false (p x) (out x)) xs)

-- ---- spans of different rows

-- of their identities, a test of spans finds the span itself
different_any : (p : Span → Bool) (spans : List Span) → AreOfDifferentRows spans
    → AllByRecursion (λ (span : Span). list_any (λ (other : Span). same_identity other.id span.id && p other) spans ≡ p span) spans
different_any p [] different = tt
different_any p (first ∷ spans) different = (
  (λ i. (same-itself first.id i && p first) || none_any (λ (other : Span). same_identity other.id first.id && p other) spans
      (each_weaker (λ (other : Span). (same_identity other.id first.id && p other) ≡ false) (λ (other : Span). same_identity first.id other.id ≡ false)
      (λ other is. ap (λ b. b && p other) (is_false (same_identity other.id first.id) (λ same. false≢true (sym is ∙ same-sym other.id first.id same)))) spans different.0) i)
      ∙ or_false (p first),
  each_both (λ (span : Span). list_any (λ (other : Span). same_identity other.id span.id && p other) (first ∷ spans) ≡ p span)
      (λ (span : Span). same_identity first.id span.id ≡ false) (λ (span : Span). list_any (λ (other : Span). same_identity other.id span.id && p other) spans ≡ p span)
      (λ span is rest. (λ i. (is i && p first) || rest i)) spans different.0 (different_any p spans different.1),
)
  where
    or_false : (b : Bool) → (b || false) ≡ b
    or_false true = refl
    or_false false = refl

-- ---- spans that hold at least one version

-- one that begins with a version holds it
begun_holds : (version : ℕ) (span : Span) → IsEndAbove span.from span.to → (span.from == version) ≡ true → holds_at version span ≡ true
begun_holds version span above begins =
    subst (λ (v : ℕ). holds_at v span ≡ true) (eqb-true span.from version begins) (λ i. le-leb span.from span.from (omega arith) i && ends span.to above i)
  where
    ends : (to : Option ℕ) → IsEndAbove span.from to → is_before_end span.from to ≡ true
    ends None above = refl
    ends (Some to) above = grind (arith, nat_tests, above)

-- one that ends with a version holds the version before
ended_holds : (version : ℕ) (span : Span) → IsEndAbove span.from span.to → ends_at (suc version) span.to ≡ true → holds_at version span ≡ true
ended_holds version span above ends = by span.to above ends
  where
    by : (to : Option ℕ) → IsEndAbove span.from to → ends_at (suc version) to ≡ true → (nat_le span.from version && is_before_end version to) ≡ true
    by None above ends = absurd (false≢true ends)
    by (Some to) above ends =
        let same : to ≡ suc version = eqb-true to (suc version) ends in
        let first : nat_le span.from version ≡ true = le-leb span.from version (omega (arith, above, same)) in
        let last : nat_lt version to ≡ true = grind (arith, nat_tests, same) in
        λ i. first i && last i

-- and not that version
ended_away : (version : ℕ) (span : Span) → ends_at (suc version) span.to ≡ true → holds_at (suc version) span ≡ true → ⊥
ended_away version span ends holds = by span.to ends (and_parts (nat_le span.from (suc version)) (is_before_end (suc version) span.to) holds).1
  where
    by : (to : Option ℕ) → ends_at (suc version) to ≡ true → is_before_end (suc version) to ≡ true → ⊥
    by None ends before = false≢true ends
    by (Some to) ends before =
        let same : to ≡ suc version = eqb-true to (suc version) ends in
        let less : suc version < to = grind (arith, nat_tests) in
        omega (arith, same, less)

-- one that begins with a version does not hold the version before
begun_away_before : (version : ℕ) (span : Span) → (span.from == suc version) ≡ true → holds_at version span ≡ true → ⊥
begun_away_before version span begins holds =
    let same : span.from ≡ suc version = eqb-true span.from (suc version) begins in
    let first : nat_le span.from version ≡ true = (and_parts (nat_le span.from version) (is_before_end version span.to) holds).0 in
    let less : span.from ≤ version = grind (arith, nat_tests) in
    omega (arith, same, less)

-- ---- one table

module _ {M : Type 0} (log : Log) (t before most table : ℕ) (spans : List Span) (annotations : List M) (few : List Span) (left : List M) (part : IsPart log t before most table spans annotations few left) where
  abbrev is_left : Span → Bool
  is_left span = part.meets span && not (part.stays span)

  -- the row of an identity stays
  abbrev pub row_stays : Identity → Bool
  row_stays id = list_any (λ (span : Span). same_identity span.id id && part.stays span) spans

  module _ (apart : NoOverlap spans) (v : ℕ) (seen : IsRead log t before v) where
    -- in a version that is read, it does where its span does
    pub stays_same : AllByRecursion (λ (span : Span). row_stays span.id ≡ part.stays span) (spans_at v spans)
    stays_same =
        each_weaker (λ (span : Span). row_stays span.id ≡ part.stays span) (λ (span : Span). list_any (λ (other : Span). same_identity other.id span.id && part.stays other) (spans_at v spans) ≡ part.stays span)
        (λ span is. sym (any-filter_same (λ (other : Span). same_identity other.id span.id && part.stays other) (holds_at v) true (λ other both. part.held v seen other (and_parts (same_identity other.id span.id) (part.stays other) both).1) spans) ∙ is)
        (spans_at v spans) (different_any part.stays (spans_at v spans) (held-differ v spans apart))

    -- so the spans that are left are those of the rows that do not stay
    pub left_at : spans_at v few ≡ filter (λ (span : Span). not (row_stays span.id)) (spans_at v spans)
    left_at =
        ap (spans_at v) part.spans_are ∙ filter_crossed (holds_at v) is_left spans
        ∙ filter_each is_left (λ (span : Span). not (row_stays span.id)) (spans_at v spans)
        (each_both (λ (span : Span). is_left span ≡ not (row_stays span.id)) (λ (span : Span). row_stays span.id ≡ part.stays span) (λ (span : Span). holds_at v span ≡ true)
        (λ span same holds. (λ i. part.met v seen span holds i && not (sym same i)))
        (spans_at v spans) stays_same (each_filter (λ (span : Span). holds_at v span ≡ true) (λ span. Unit {0}) (holds_at v) (λ span holds u. holds) spans (each_all (λ span. Unit {0}) (λ span. tt) spans)))

    -- and those of the rows that stay are the spans that stay
    pub kept_at : filter (λ (span : Span). row_stays span.id) (spans_at v spans) ≡ filter part.stays spans
    kept_at =
        filter_each (λ (span : Span). row_stays span.id) part.stays (spans_at v spans) stays_same
        ∙ filter-filter part.stays (holds_at v) spans
        ∙ filter_each (λ span. holds_at v span && part.stays span) part.stays spans (each_all (λ span. (holds_at v span && part.stays span) ≡ part.stays span) (λ span. both span (part.stays span) refl) spans)
      where
        both : (span : Span) (b : Bool) → part.stays span ≡ b → (holds_at v span && b) ≡ b
        both span true is = λ i. part.held v seen span is i && true
        both span false is = and_false (holds_at v span)
          where
            and_false : (b : Bool) → (b && false) ≡ false
            and_false true = refl
            and_false false = refl

  -- no identity of the transaction stays
  pub own_goes : (k n : ℕ) (ids : Sources) → row_stays (identity t k n ids) ≡ false
  own_goes k n ids =
      none_any (λ (span : Span). same_identity span.id (identity t k n ids) && part.stays span) spans
      (each_all (λ (span : Span). (same_identity span.id (identity t k n ids) && part.stays span) ≡ false) (λ span. is_false (same_identity span.id (identity t k n ids) && part.stays span) (λ both. own span (and_parts (same_identity span.id (identity t k n ids)) (part.stays span) both))) spans)
    where
      own : (span : Span) → (same_identity span.id (identity t k n ids) ≡ true) × (part.stays span ≡ true) → ⊥
      own span both =
          let same : identity_transaction span.id ≡ t = ap identity_transaction (same-exact span.id (identity t k n ids) both.0) in
          false≢true (sym (part.foreign span both.1) ∙ (λ i. same i == t) ∙ eq_itself t)

  -- ---- the version that the commit makes

  module _ (whole : AreWhole spans) where
    -- a span that begins or ends there is left
    touched_left : AllByRecursion (λ (span : Span). is_touched (suc before) span ≡ true → is_left span ≡ true) spans
    touched_left = each_weaker (λ (span : Span). is_touched (suc before) span ≡ true → is_left span ≡ true) (λ (span : Span). IsEndAbove span.from span.to) touched spans whole
      where
        left_by : (span : Span) (v : ℕ) → IsRead log t before v → holds_at v span ≡ true → (part.stays span ≡ true → ⊥) → is_left span ≡ true
        left_by span v seen holds gone = λ i. part.met v seen span holds i && not (is_false (part.stays span) gone i)

        touched : (span : Span) → IsEndAbove span.from span.to → is_touched (suc before) span ≡ true → is_left span ≡ true
        touched span above is = by (span.from == suc before) refl is
          where
            by : (b : Bool) → (span.from == suc before) ≡ b → (b || ends_at (suc before) span.to) ≡ true → is_left span ≡ true
            by true begins is = left_by span (suc before) of_commit (begun_holds (suc before) span above begins) (λ stays. begun_away_before before span begins (part.held before at_end span stays))
            by false begins is = left_by span before at_end (ended_holds before span above is) (λ stays. ended_away before span is (part.held (suc before) of_commit span stays))

    pub touched_same : list_any (is_touched (suc before)) few ≡ list_any (is_touched (suc before)) spans
    touched_same = ap (list_any (is_touched (suc before))) part.spans_are ∙ any_passing (is_touched (suc before)) is_left spans touched_left

    -- the row of a span that begins there does not stay
    pub begun_goes : NoOverlap spans → AllByRecursion (λ (span : Span). (span.from == suc before) ≡ true → row_stays span.id ≡ false) spans
    begun_goes apart =
        each_both (λ (span : Span). (span.from == suc before) ≡ true → row_stays span.id ≡ false) (λ (span : Span). IsEndAbove span.from span.to)
        (λ (span : Span). holds_at (suc before) span ≡ true → row_stays span.id ≡ part.stays span)
        (λ span above same begins. same (begun_holds (suc before) span above begins) ∙ is_false (part.stays span) (λ stays. begun_away_before before span begins (part.held before at_end span stays)))
        spans whole (each_unfiltered (λ (span : Span). row_stays span.id ≡ part.stays span) (holds_at (suc before)) spans (stays_same apart (suc before) of_commit))

    -- what is said of the spans that begin there is said of those that are left
    pub begun_left : (P : Span → Type 0) → AllByRecursion (λ (span : Span). (span.from == suc before) ≡ true → P span) few → AllByRecursion (λ (span : Span). (span.from == suc before) ≡ true → P span) spans
    begun_left P all =
        each_both (λ (span : Span). (span.from == suc before) ≡ true → P span) (λ (span : Span). is_touched (suc before) span ≡ true → is_left span ≡ true) (λ (span : Span). is_left span ≡ true → (span.from == suc before) ≡ true → P span)
        (λ span touched said begins. said (touched (λ i. begins i || ends_at (suc before) span.to)) begins)
        spans touched_left (each_unfiltered (λ (span : Span). (span.from == suc before) ≡ true → P span) is_left spans (subst (λ (spans : List Span). AllByRecursion (λ (span : Span). (span.from == suc before) ≡ true → P span) spans) part.spans_are all))

-- ---- all tables

pub rows_are : {M : Type 0} (version : ℕ) (f : Span → M) (spans : List Span) → span_rows version spans (map f spans) ≡ map (λ span. span_row (f span) span) (spans_at version spans)
rows_are version f [] = refl
rows_are version f (span ∷ spans) =
    elim (holds_at version span) as (λ b. cond b (span_row (f span) span ∷ span_rows version spans (map f spans)) (span_rows version spans (map f spans)) ≡ map (λ span. span_row (f span) span) (cond b (span ∷ spans_at version spans) (spans_at version spans))) [
      | true ↦ ap (λ (rows : List (Annotated _)). span_row (f span) span ∷ rows) (rows_are version f spans)
      | false ↦ rows_are version f spans
    ]

chosen_are : {M : Type 0} (p : Span → Bool) (f : Span → M) (spans : List Span) → chosen_with p spans (map f spans) ≡ map f (filter p spans)
chosen_are p f [] = refl
chosen_are p f (span ∷ spans) =
    elim (p span) as (λ b. cond b (f span ∷ chosen_with p spans (map f spans)) (chosen_with p spans (map f spans)) ≡ map f (cond b (span ∷ filter p spans) (filter p spans))) [
      | true ↦ ap (λ (rest : List _). f span ∷ rest) (chosen_are p f spans)
      | false ↦ chosen_are p f spans
    ]

module _ {M : Type 0} (domain : Annotations M) (log : Log) (t before : ℕ) (spans : ℕ → List Span) (apart : (table : ℕ) → NoOverlap (spans table)) (whole : (table : ℕ) → AreWhole (spans table))
    (known : List (List M)) (are : AreAnnotated domain log spans before known) (narrowed : Narrowed M) (narrow : IsNarrow log t before spans known narrowed) where
  abbrev pub few : ℕ → List Span
  few = narrow_spans narrowed

  abbrev pub past : Environment M
  past = annotated domain spans (computed domain log spans before)

  abbrev pub few_past : Environment M
  few_past = annotated domain few (computed domain log spans before)

  abbrev row_in : ℕ → Span → Annotated M
  row_in table = annotated_row domain (computed domain log spans before) table

  -- the rows that stay
  abbrev pub stays : ℕ → Identity → Bool
  stays table = row_stays log t before narrowed.most table (spans table) (slice_index_or known table []) (few table) (narrow_annotations narrowed table) (narrow table)

  abbrev pub kept : ℕ → List (Annotated M)
  kept table = map (row_in table) (filter (narrow table).stays (spans table))

  -- the spans that are left have their annotations
  pub versions_are : narrow_versions narrowed ≡ few_past
  versions_are = λ i. λ v table. (ap (span_rows v (few table)) (annotations_are table) ∙ rows_are v (annotation table) (few table)) i
    where
      annotation : ℕ → Span → M
      annotation table span = annotation_of domain span.id (computed domain log spans before span.from table)

      annotations_are : (table : ℕ) → narrow_annotations narrowed table ≡ map (annotation table) (few table)
      annotations_are table =
          let part = narrow table in
          let left = λ (span : Span). part.meets span && not (part.stays span) in
          part.annotations_are ∙ ap (chosen_with left (spans table)) (are.tables table) ∙ chosen_are left (annotation table) (spans table) ∙ ap (map (annotation table)) (sym part.spans_are)

  pub narrows : (v : ℕ) → IsRead log t before v → Narrows stays kept (past v) (few_past v)
  narrows v seen = record {
    others_are = λ table.
        ap (map (row_in table)) (left_at log t before narrowed.most table (spans table) (slice_index_or known table []) (few table) (narrow_annotations narrowed table) (narrow table) (apart table) v seen)
        ∙ sym (filter-map (λ (row : Annotated M). not (stays table row.identity)) (row_in table) (spans_at v (spans table)));
    stayers_are = λ table.
        filter-map (λ (row : Annotated M). stays table row.identity) (row_in table) (spans_at v (spans table))
        ∙ ap (map (row_in table)) (kept_at log t before narrowed.most table (spans table) (slice_index_or known table []) (few table) (narrow_annotations narrowed table) (narrow table) (apart table) v seen);
  }

  pub kept_unmarked : (table : ℕ) → AreUnmarked (kept table)
  kept_unmarked table =
      each_map (λ (row : Annotated M). row.mark ≡ false) (λ span. Unit {0}) (row_in table) (λ span u. refl) (filter (narrow table).stays (spans table)) (each_all (λ span. Unit {0}) (λ span. tt) (filter (narrow table).stays (spans table)))

  pub not_own : (table k n : ℕ) (ids : Sources) → stays table (identity t k n ids) ≡ false
  not_own table k n ids = own_goes log t before narrowed.most table (spans table) (slice_index_or known table []) (few table) (narrow_annotations narrowed table) (narrow table) k n ids

  -- ---- what a statement leaves

  -- what is said of the cells of each span that stays
  kept_each : (table : ℕ) (P : List Cell → Type 0) → ((span : Span) → (narrow table).stays span ≡ true → P span.row) → AllByRecursion (λ (row : Annotated M). P row.cells) (kept table)
  kept_each table P each =
      each_map (λ (row : Annotated M). P row.cells) (λ (span : Span). P span.row) (row_in table) (λ span is. is) (filter (narrow table).stays (spans table))
      (each_filter (λ (span : Span). P span.row) (λ span. Unit {0}) (narrow table).stays (λ span is u. each span is) (spans table) (each_all (λ span. Unit {0}) (λ span. tt) (spans table)))

  kept_none : (table : ℕ) → ((span : Span) → (narrow table).stays span ≡ true → ⊥) → kept table ≡ []
  kept_none table out = ap (map (row_in table)) (passing_none (narrow table).stays (spans table) out)

  written_over : (table : ℕ) (c : Cond) → ((span : Span) → (narrow table).stays span ≡ true → cond (table == table) (not (passes c span.row)) true ≡ true) → ArePassedOver c (kept table)
  written_over table c left =
      kept_each table (λ cells. passes c cells ≡ false) (λ span is. not_false (passes c span.row) ((λ i. cond (sym (eq_itself table) i) (not (passes c span.row)) true) ∙ left span is))

  -- a table of a join has no row that stays, and neither has one that is read without a WHERE
  branch_skipped : (branch : Branch) → ((table : ℕ) (span : Span) → (narrow table).stays span ≡ true → skips table span.row branch ≡ true) → Skips kept branch
  branch_skipped branch skipped = by branch.from branch.cond skipped
    where
      among_first : (table : ℕ) (tables : List ℕ) → is_among table (table ∷ tables) ≡ true
      among_first table tables = λ i. eq_itself table i || is_among table tables

      by : (from : List ℕ) (where_is : Option Cond) → ((table : ℕ) (span : Span) → (narrow table).stays span ≡ true → cond (is_among table from) ((length from == 1) && is_refused where_is span.row) true ≡ true)
          → AllByRecursion (λ table. kept table ≡ []) from ⊎ SkipsOne kept from where_is
      by [] where_is skipped = inl tt
      by (table ∷ []) None skipped =
          inl (kept_none table (λ span is. false≢true ((λ i. cond (sym (among_first table []) i) false true) ∙ skipped table span is)), tt)
      by (table ∷ []) (Some c) skipped =
          inr (kept_each table (λ cells. passes c cells ≡ false) (λ span is. not_false (passes c span.row) ((λ i. cond (sym (among_first table []) i) (not (passes c span.row)) true) ∙ skipped table span is)))
      by (table ∷ other ∷ tables) where_is skipped = inl (each (table ∷ other ∷ tables) (λ own there. there))
        where
          each : (some : List ℕ) → ((own : ℕ) → is_among own some ≡ true → is_among own (table ∷ other ∷ tables) ≡ true) → AllByRecursion (λ table. kept table ≡ []) some
          each [] inside = tt
          each (own ∷ some) inside = (
            kept_none own (λ span is. false≢true ((λ i. cond (sym (inside own (among_first own some)) i) false true)
                ∙ (λ i. cond (is_among own (table ∷ other ∷ tables)) (sym (longer (length tables)) i && is_refused where_is span.row) true) ∙ skipped own span is)),
            each some (λ one there. inside one (there_too own one some there)),
          )
            where
              longer : (n : ℕ) → (suc (suc n) == 1) ≡ false
              longer n = grind (arith, nat_tests)

              there_too : (own one : ℕ) (some : List ℕ) → is_among one some ≡ true → is_among one (own ∷ some) ≡ true
              there_too own one some there = or_right_true (own == one) (is_among one some) there
                where
                  or_right_true : (a b : Bool) → b ≡ true → (a || b) ≡ true
                  or_right_true true b e = refl
                  or_right_true false b e = e

  select_skipped : (select : Select) → ((table : ℕ) (span : Span) → (narrow table).stays span ≡ true → list_all (skips table span.row) select ≡ true) → AllByRecursion (Skips kept) select
  select_skipped [] skipped = tt
  select_skipped (branch ∷ select) skipped = (
    branch_skipped branch (λ table span is. (and_parts (skips table span.row branch) (list_all (skips table span.row) select) (skipped table span is)).0),
    select_skipped select (λ table span is. (and_parts (skips table span.row branch) (list_all (skips table span.row) select) (skipped table span is)).1),
  )

  statement_leaves : (statement : Statement) → ((table : ℕ) (span : Span) → (narrow table).stays span ≡ true → leaves table span.row statement ≡ true) → Leaves kept statement
  statement_leaves (insert written rows) left = tt
  statement_leaves (insert_select written select) left = select_skipped select left
  statement_leaves (update written sets c) left = written_over written c (left written)
  statement_leaves (delete written c) left = written_over written c (left written)
  statement_leaves (read select) left = tt

  pub all_leave : (k : ℕ) (statement : Statement) → log.statement t k ≡ Some statement → Leaves kept statement
  all_leave k statement there = statement_leaves statement (λ table span is. (narrow table).left_alone span is k statement there)

  -- ---- limits

  statement_room : (statement : Statement) → ((table : ℕ) → inserts_into table statement ≡ true → narrowed.most + length (filter (narrow table).stays (spans table)) ≤ MAX_TABLE_ROWS)
      → HasRoom domain stays kept narrowed.most MAX_TABLE_ROWS statement
  statement_room (insert written rows) room = subst (λ (count : ℕ). narrowed.most + count ≤ MAX_TABLE_ROWS) (sym (length-map (row_in written) (filter (narrow written).stays (spans written)))) (room written (eq_itself written))
  statement_room (insert_select written select) room = subst (λ (count : ℕ). narrowed.most + count ≤ MAX_TABLE_ROWS) (sym (length-map (row_in written) (filter (narrow written).stays (spans written)))) (room written (eq_itself written))
  statement_room (update written sets c) room = tt
  statement_room (delete written c) room = tt
  statement_room (read select) room = tt

  pub all_room : (k : ℕ) (statement : Statement) → log.statement t k ≡ Some statement → HasRoom domain stays kept narrowed.most MAX_TABLE_ROWS statement
  all_room k statement there = statement_room statement (λ table into. (narrow table).room k statement there into)

  -- ---- spans that begin or end with the version

  pub touched_all : (table : ℕ) → list_any (is_touched (suc before)) (few table) ≡ list_any (is_touched (suc before)) (spans table)
  touched_all table = touched_same log t before narrowed.most table (spans table) (slice_index_or known table []) (few table) (narrow_annotations narrowed table) (narrow table) (whole table)

  pub begun_away : (table : ℕ) → AllByRecursion (λ (span : Span). (span.from == suc before) ≡ true → stays table span.id ≡ false) (spans table)
  begun_away table = begun_goes log t before narrowed.most table (spans table) (slice_index_or known table []) (few table) (narrow_annotations narrowed table) (narrow table) (whole table) (apart table)

  pub finds_all : (table : ℕ) (found : BTreeMap Identity M) (rows : List (Annotated M)) → Finds domain (suc before) found (few table) rows → Finds domain (suc before) found (spans table) rows
  finds_all table found rows finds =
      begun_left log t before narrowed.most table (spans table) (slice_index_or known table []) (few table) (narrow_annotations narrowed table) (narrow table) (whole table)
      (λ span. unwrap_or (get identity_cmp found span.id) domain.one ≡ annotation_of domain span.id rows) finds

  pub few_fit : (P : Span → Type 0) (table : ℕ) → AllByRecursion P (spans table) → AllByRecursion P (few table)
  few_fit P table all =
      subst (AllByRecursion P) (sym (narrow table).spans_are) (each_filter P P (λ span. (narrow table).meets span && not ((narrow table).stays span)) (λ span is said. said) (spans table) all)
