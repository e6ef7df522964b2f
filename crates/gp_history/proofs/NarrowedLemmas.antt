-- What is left of the row versions of a commit, as the code finds it.
use Rattle.std.proofs.Common.{◌≡◌, inl, inr, ℕ, zero, suc, ◌+◌, ◌<◌, ◌≤◌, ◌==◌, ◌⊎◌, Bool, true, false, cond, List, [], ◌∷◌, ◌++◌, length, refl, sym, ap, ◌∙◌, subst, arith, Option, Some, None, Contains, nat_le, slice_get, length-append}
use Rattle.std.specs.Prelude.{◌&&◌, not, drop, filter, slice_index_or, unwrap_or}
use Rattle.std.specs.List.{list_all, list_any}
use Rattle.std.proofs.lemmas.Bool.{and_parts, false≢true, or_left, or_right}
use Rattle.std.proofs.lemmas.Bool.Decides.{nat_tests}
use Rattle.std.proofs.lemmas.List.Elements.{All-contains}
use Rattle.std.proofs.lemmas.List.Sums.{AllPass-from_list_all}
use Rattle.std.proofs.lemmas.List.{append_assoc, drop_more}
use Rattle.gp_base.specs.declared.limit.TheConstants.{MAX_TABLE_ROWS}
use Rattle.gp_base.specs.declared.table.Table.{Table}
use Rattle.gp_base.specs.UserCells.{is_user_cell}
use Rattle.gp_expr.specs.ExpressionForms.{cond_all_leaves, cond_is_simple}
use Rattle.gp_algebra.specs.Fitting.{cond_fits, is_column, is_there, set_fits, statement_fits}
use Rattle.gp_algebra.proofs.SimpleLemmas.{fitting_insert-simple}
use Rattle.gp_base.specs.IdentityParts.{identity_transaction}
use Rattle.gp_algebra.specs.Statements.{Statement, delete, insert, insert_select, read, update, width_of}
use Rattle.gp_machine.specs.Entries.{Log}
use Rattle.gp_versions.specs.declared.span.Span.{Span}
use Rattle.gp_versions.specs.Spans.{holds_at, is_before_end}
use Rattle.gp_versions.specs.TableSpans.{AreWhole, NoOverlap}
use Rattle.gp_history.specs.Narrowing as n
use Rattle.gp_history.specs.Narrowing.{Covers, IsLeft, IsLeftBy, IsNarrow, IsPart, chosen_with, inserts_into, is_held, leaves, narrow_spans, narrow_versions, only, part_annotations, part_spans, row_stays, stays_if, tests_are_simple}
use Rattle.gp_history.specs.SpanAnnotations.{span_rows, versions_with}
use Rattle.gp_history.specs.declared.narrowed.Narrowed.{Narrowed}
use Rattle.gp_history.specs.declared.narrowed.Part.{Part}
use Rattle.gp_history.specs.declared.narrowed.Reach.{Reach}
use Rattle.gp_history.proofs.CommitLemmas.{pushed}
use Rattle.gp_history.proofs.NarrowLemmas.{not_false}

-- ---- lists

-- a test of all passes for each
all_at : {X : Type 0} (p : X → Bool) (xs : List X) (x : X) → list_all p xs ≡ true → Contains xs x → p x ≡ true
all_at p xs x all there = All-contains (λ x. p x ≡ true) xs x (AllPass-from_list_all p xs all) there

any_at : {X : Type 0} (p : X → Bool) (xs : List X) (x : X) → Contains xs x → p x ≡ true → list_any p xs ≡ true
any_at p [] x (k, within, is) passes = absurd (omega (arith, within))
any_at p (y ∷ xs) x (zero, within, is) passes = or_left (p y) (list_any p xs) (ap p is ∙ passes)
any_at p (y ∷ xs) x (suc k, within, is) passes = or_right (p y) (list_any p xs) (any_at p xs x (k, omega (arith, within), is) passes)

filter_within : {X : Type 0} (p : X → Bool) (xs : List X) → length (filter p xs) ≤ length xs
filter_within p [] = omega arith
filter_within p (x ∷ xs) =
    elim (p x) as (λ b. length (cond b (x ∷ filter p xs) (filter p xs)) ≤ suc (length xs)) [
      | true ↦ let rest = filter_within p xs in omega (arith, rest)
      | false ↦ let rest = filter_within p xs in omega (arith, rest)
    ]

-- what is left of a list, from the item at a place on
pub next_dropped : {X : Type 0} (xs : List X) (i : ℕ) (x : X) → i < length xs → x ≡ slice_index_or xs i x → drop i xs ≡ x ∷ drop (i + 1) xs
next_dropped xs i x within is = drop_more xs i x within ∙ ap (λ y. y ∷ drop (i + 1) xs) (sym is)

-- ---- the versions between two

-- a span that holds a version between them holds one of them
meets_held : (reach : Reach) (v : ℕ) (span : Span) → (reach.first ≤ v) × (v ≤ reach.last) → holds_at v span ≡ true → n.meets reach span ≡ true
meets_held reach v span between holds =
    let parts = and_parts (nat_le span.from v) (is_before_end v span.to) holds in
    λ i. from_within span.from v reach.last parts.0 between.1 i && ends_after span.to parts.1 i
  where
    from_within : (from v last : ℕ) → nat_le from v ≡ true → v ≤ last → nat_le from last ≡ true
    from_within from v last e l = grind (arith, nat_tests)

    ends_after : (to : Option ℕ) → is_before_end v to ≡ true → is_before_end reach.first to ≡ true
    ends_after None e = refl
    ends_after (Some to) e = grind (arith, nat_tests, between.0)

-- and one that holds all between them holds each
held_each : (reach : Reach) (v : ℕ) (span : Span) → (reach.first ≤ v) × (v ≤ reach.last) → is_held reach span ≡ true → holds_at v span ≡ true
held_each reach v span between held =
    let parts = and_parts (nat_le span.from reach.first) (is_before_end reach.last span.to) held in
    λ i. from_within span.from reach.first v parts.0 between.0 i && ends_after span.to parts.1 i
  where
    from_within : (from first v : ℕ) → nat_le from first ≡ true → first ≤ v → nat_le from v ≡ true
    from_within from first v e l = grind (arith, nat_tests)

    ends_after : (to : Option ℕ) → is_before_end reach.last to ≡ true → is_before_end v to ≡ true
    ends_after None e = refl
    ends_after (Some to) e = grind (arith, nat_tests, between.1)

-- ---- spans that are looked at one after another

module _ {M : Type 0} (meets stays : Span → Bool) (spans : List Span) (annotations : List M) where
  abbrev is_left : Span → Bool
  is_left span = meets span && not (stays span)

  -- what remains decides
  pub record Goes (part : Part M) (rest : List Span) (others : List M) : Type 0 where
    pub spans_go : part_spans part ++ filter is_left rest ≡ filter is_left spans
    pub annotations_go : part_annotations part ++ chosen_with is_left rest others ≡ chosen_with is_left spans annotations
    pub count_goes : part.left_out + length (filter stays rest) ≡ length (filter stays spans)

  -- one more
  pub goes_on : (part next : Part M) (span : Span) (rest : List Span) (annotation : M) (others : List M) → part_spans next ≡ part_spans part ++ only (is_left span) span
      → part_annotations next ≡ part_annotations part ++ only (is_left span) annotation → next.left_out ≡ part.left_out + length (only (stays span) span)
      → Goes part (span ∷ rest) (annotation ∷ others) → Goes next rest others
  goes_on part next span rest annotation others more_spans more_annotations more goes = record {
    spans_go =
        ap (λ (all : List Span). all ++ filter is_left rest) more_spans ∙ append_assoc (part_spans part) (only (is_left span) span) (filter is_left rest)
        ∙ ap (λ (all : List Span). part_spans part ++ all) (first_of (is_left span) span (filter is_left rest)) ∙ goes.spans_go;
    annotations_go =
        ap (λ (all : List M). all ++ chosen_with is_left rest others) more_annotations ∙ append_assoc (part_annotations part) (only (is_left span) annotation) (chosen_with is_left rest others)
        ∙ ap (λ (all : List M). part_annotations part ++ all) (first_of (is_left span) annotation (chosen_with is_left rest others)) ∙ goes.annotations_go;
    count_goes = counted (stays span) more goes.count_goes;
  }
    where
      first_of : {X : Type 0} (wanted : Bool) (x : X) (xs : List X) → only wanted x ++ xs ≡ cond wanted (x ∷ xs) xs
      first_of true x xs = refl
      first_of false x xs = refl

      counted : (b : Bool) → next.left_out ≡ part.left_out + length (only b span) → part.left_out + length (cond b (span ∷ filter stays rest) (filter stays rest)) ≡ length (filter stays spans)
          → next.left_out + length (filter stays rest) ≡ length (filter stays spans)
      counted true more e = omega (arith, more, e)
      counted false more e = omega (arith, more, e)

  -- no more stay than there are spans
  pub goes_within : (part : Part M) (span : Span) (rest : List Span) (others : List M) → stays span ≡ true → Goes part (span ∷ rest) others → part.left_out < length spans
  goes_within part span rest others is goes =
      counted (length (filter stays rest)) ((λ i. part.left_out + length (cond (sym is i) (span ∷ filter stays rest) (filter stays rest))) ∙ goes.count_goes) (filter_within stays spans)
    where
      counted : (n : ℕ) → part.left_out + suc n ≡ length (filter stays spans) → length (filter stays spans) ≤ length spans → part.left_out < length spans
      counted n e within = omega (arith, e, within)

  -- the span at a place is looked at
  pub goes_next : (part next : Part M) (i : ℕ) (span : Span) (annotation : M) (met stay : Bool) → i < length spans → length annotations ≡ length spans → span ≡ slice_index_or spans i span → annotation ≡ slice_index_or annotations i annotation
      → met ≡ meets span → stay ≡ stays span → part_spans next ≡ part_spans part ++ only (met && not stay) span → part_annotations next ≡ part_annotations part ++ only (met && not stay) annotation
      → next.left_out ≡ part.left_out + length (only stay span) → Goes part (drop i spans) (drop i annotations) → Goes next (drop (i + 1) spans) (drop (i + 1) annotations)
  goes_next part next i span annotation met stay within same of_spans of_annotations is_met is_stay more_spans more_annotations more goes =
      goes_on part next span (drop (i + 1) spans) annotation (drop (i + 1) annotations)
      (more_spans ∙ (λ j. part_spans part ++ only (is_met j && not (is_stay j)) span)) (more_annotations ∙ (λ j. part_annotations part ++ only (is_met j && not (is_stay j)) annotation))
      (more ∙ (λ j. part.left_out + length (only (is_stay j) span)))
      (subst (λ (rest : List Span). Goes part rest (annotation ∷ drop (i + 1) annotations)) (next_dropped spans i span within of_spans)
      (subst (λ (rest : List M). Goes part (drop i spans) rest) (next_dropped annotations i annotation (omega (arith, within, same)) of_annotations) goes))

  pub stays_below : (part : Part M) (i : ℕ) (span : Span) → i < length spans → span ≡ slice_index_or spans i span → stays span ≡ true → Goes part (drop i spans) (drop i annotations) → part.left_out < length spans
  stays_below part i span within of_spans is goes =
      goes_within part span (drop (i + 1) spans) (drop i annotations) is (subst (λ (rest : List Span). Goes part rest (drop i annotations)) (next_dropped spans i span within of_spans) goes)

-- where no row is tested, none stays
pub untested_few : {M : Type 0} (reach : Reach) (t : ℕ) (statements : List Statement) (table : ℕ) (spans : List Span) (annotations : List M) (part : Part M)
    → IsLeft (n.meets reach) (stays_if false reach t statements table) spans annotations part → part.left_out ≤ MAX_TABLE_ROWS
untested_few reach t statements table spans annotations part left = subst (λ (count : ℕ). count ≤ MAX_TABLE_ROWS) (sym (left.count ∙ ap length (none spans))) (omega arith)
  where
    none : (spans : List Span) → filter (stays_if false reach t statements table) spans ≡ []
    none [] = refl
    none (span ∷ spans) = none spans

-- ---- statements that fit

pub fits_tests : (tables : List Table) (statement : Statement) → statement_fits tables statement ≡ true → tests_are_simple statement ≡ true
fits_tests tables (insert table rows) fits = refl
fits_tests tables (insert_select table select) fits = fitting_insert-simple tables table select fits
fits_tests tables (update table sets c) fits =
    let written = and_parts (is_there tables table) (list_all (set_fits (width_of tables table)) sets && cond_fits (width_of tables table) c) fits in
    let own = and_parts (list_all (set_fits (width_of tables table)) sets) (cond_fits (width_of tables table) c) written.1 in
    (and_parts (cond_is_simple c) (cond_all_leaves (is_column (width_of tables table)) is_user_cell c) own.1).0
fits_tests tables (delete table c) fits =
    let own = and_parts (is_there tables table) (cond_fits (width_of tables table) c) fits in
    (and_parts (cond_is_simple c) (cond_all_leaves (is_column (width_of tables table)) is_user_cell c) own.1).0
fits_tests tables (read select) fits = refl

-- ---- one table

module _ {M : Type 0} (log : Log) (t before table : ℕ) (spans : List Span) (annotations : List M) where
  -- what is left of a table, by its test
  pub part_from : (reach : Reach) (statements : List Statement) → Covers log t before reach → ((k : ℕ) (statement : Statement) → log.statement t k ≡ Some statement → Contains statements statement)
      → (most : ℕ) (part : Part M) → IsLeftBy reach t statements table spans annotations part → (list_any (inserts_into table) statements ≡ true → most + part.left_out ≤ MAX_TABLE_ROWS)
      → NoOverlap spans → AreWhole spans → IsPart log t before most table spans annotations (part_spans part) (part_annotations part)
  part_from reach statements covers found most part by room apart whole = record {
    apart = apart;
    whole = whole;
    meets = n.meets reach;
    stays = stays;
    met = λ v read span holds. meets_held reach v span (covers.all v read) holds;
    held = λ v read span is. held_each reach v span (covers.all v read) (parts span is).0;
    foreign = λ span is. not_false (identity_transaction span.id == t) (others span is).0;
    left_alone = λ span is k statement there. all_at (leaves table span.row) statements statement (others span is).1 (found k statement there);
    room = λ k statement there into.
        let any = any_at (inserts_into table) statements statement (found k statement there) into in
        subst (λ (count : ℕ). most + count ≤ MAX_TABLE_ROWS) (by.count any) (room any);
    spans_are = by.spans_are;
    annotations_are = by.annotations_are;
  }
    where
      stays : Span → Bool
      stays = stays_if by.tested reach t statements table

      parts : (span : Span) → stays span ≡ true → (is_held reach span ≡ true) × ((not (identity_transaction span.id == t) && list_all (leaves table span.row) statements) ≡ true)
      parts span is =
          and_parts (is_held reach span) (not (identity_transaction span.id == t) && list_all (leaves table span.row) statements)
          (and_parts by.tested (row_stays reach t statements table span) is).1

      others : (span : Span) → stays span ≡ true → (not (identity_transaction span.id == t) ≡ true) × (list_all (leaves table span.row) statements ≡ true)
      others span is = and_parts (not (identity_transaction span.id == t)) (list_all (leaves table span.row) statements) (parts span is).1

  -- with a lesser limit
  pub part_within : (most less : ℕ) (few : List Span) (left : List M) → less ≤ most → IsPart log t before most table spans annotations few left → IsPart log t before less table spans annotations few left
  part_within most less few left fewer part = record {
    apart = part.apart;
    whole = part.whole;
    meets = part.meets;
    stays = part.stays;
    met = part.met;
    held = part.held;
    foreign = part.foreign;
    left_alone = part.left_alone;
    room = λ k statement there into. within (length (filter part.stays spans)) (part.room k statement there into);
    spans_are = part.spans_are;
    annotations_are = part.annotations_are;
  }
    where
      within : (count : ℕ) → most + count ≤ MAX_TABLE_ROWS → less + count ≤ MAX_TABLE_ROWS
      within count room = omega (arith, fewer, room)

  -- a table without row versions
  pub part_empty : (most : ℕ) → most ≤ MAX_TABLE_ROWS → spans ≡ [] → IsPart log t before most table spans annotations [] []
  part_empty most within none =
      subst (λ (spans : List Span). IsPart log t before most table spans annotations [] []) (sym none) (record {
        apart = tt;
        whole = tt;
        meets = λ span. true;
        stays = λ span. false;
        met = λ v read span holds. refl;
        held = λ v read span is. absurd (false≢true is);
        foreign = λ span is. absurd (false≢true is);
        left_alone = λ span is. absurd (false≢true is);
        room = λ k statement there into. omega (arith, within);
        spans_are = refl;
        annotations_are = refl;
      })

-- ---- all tables

module _ {M : Type 0} (log : Log) (t before : ℕ) (spans : ℕ → List Span) (known : List (List M)) where
  -- the first tables, this many
  pub record ArePartly (count most : ℕ) (parts : List (Part M)) : Type 0 where
    pub many : length parts ≡ count
    pub within : most ≤ MAX_TABLE_ROWS
    pub each : (table : ℕ) (part : Part M) → slice_get parts table ≡ Some part
        → IsPart log t before most table (spans table) (slice_index_or known table []) (part_spans part) (part_annotations part)

  -- one more
  pub partly_more : (count most less : ℕ) (parts : List (Part M)) (part : Part M) → less ≤ most
      → IsPart log t before less count (spans count) (slice_index_or known count []) (part_spans part) (part_annotations part)
      → ArePartly count most parts → ArePartly (suc count) less (parts ++ part ∷ [])
  partly_more count most less parts part fewer here partly = record {
    many = omega (arith, length-append parts (part ∷ []), partly.many);
    within = omega (arith, fewer, partly.within);
    each = λ table other is. by table other (pushed parts part table count other partly.many is);
  }
    where
      by : (table : ℕ) (other : Part M) → (slice_get parts table ≡ Some other) ⊎ ((table ≡ count) × (part ≡ other))
          → IsPart log t before less table (spans table) (slice_index_or known table []) (part_spans other) (part_annotations other)
      by table other (inl earlier) =
          part_within log t before table (spans table) (slice_index_or known table []) most less (part_spans other) (part_annotations other) fewer (partly.each table other earlier)
      by table other (inr last) =
          subst (λ (at : ℕ). IsPart log t before less at (spans at) (slice_index_or known at []) (part_spans other) (part_annotations other)) (sym last.0)
          (subst (λ (own : Part M). IsPart log t before less count (spans count) (slice_index_or known count []) (part_spans own) (part_annotations own)) last.1 here)

  -- all of them: the others have no row versions
  pub partly_all : (count : ℕ) (narrowed : Narrowed M) → ArePartly count narrowed.most narrowed.parts.items → part_spans narrowed.none ≡ [] → part_annotations narrowed.none ≡ [] → ((table : ℕ) → slice_get narrowed.parts.items table ≡ None → spans table ≡ [])
      → IsNarrow log t before spans known narrowed
  partly_all count narrowed partly no_spans no_annotations none table = by (slice_get narrowed.parts.items table) refl
    where
      by : (found : Option (Part M)) → slice_get narrowed.parts.items table ≡ found
          → IsPart log t before narrowed.most table (spans table) (slice_index_or known table []) (part_spans (unwrap_or found narrowed.none)) (part_annotations (unwrap_or found narrowed.none))
      by (Some part) is = partly.each table part is
      by None is =
          subst (λ (few : List Span). IsPart log t before narrowed.most table (spans table) (slice_index_or known table []) few (part_annotations narrowed.none)) (sym no_spans)
          (subst (λ (left : List M). IsPart log t before narrowed.most table (spans table) (slice_index_or known table []) [] left) (sym no_annotations)
          (part_empty log t before table (spans table) (slice_index_or known table []) narrowed.most partly.within (none table is)))

-- ---- all row versions

module _ {M : Type 0} (spans : ℕ → List Span) (known : List (List M)) where
  -- of the first tables, this many
  pub record AreAll (count : ℕ) (parts : List (Part M)) : Type 0 where
    pub many : length parts ≡ count
    pub each : (table : ℕ) (part : Part M) → slice_get parts table ≡ Some part → (part_spans part ≡ spans table) × (part_annotations part ≡ slice_index_or known table [])

  pub all_more : (count : ℕ) (parts : List (Part M)) (part : Part M) → part_spans part ≡ spans count → part_annotations part ≡ slice_index_or known count [] → AreAll count parts → AreAll (suc count) (parts ++ part ∷ [])
  all_more count parts part of_spans of_annotations all = record {
    many = omega (arith, length-append parts (part ∷ []), all.many);
    each = λ table other is. by table other (pushed parts part table count other all.many is);
  }
    where
      by : (table : ℕ) (other : Part M) → (slice_get parts table ≡ Some other) ⊎ ((table ≡ count) × (part ≡ other)) → (part_spans other ≡ spans table) × (part_annotations other ≡ slice_index_or known table [])
      by table other (inl earlier) = all.each table other earlier
      by table other (inr last) =
          subst (λ (at : ℕ). (part_spans other ≡ spans at) × (part_annotations other ≡ slice_index_or known at [])) (sym last.0)
          (subst (λ (own : Part M). (part_spans own ≡ spans count) × (part_annotations own ≡ slice_index_or known count [])) last.1 (of_spans, of_annotations))

  module _ (count : ℕ) (narrowed : Narrowed M) (all : AreAll count narrowed.parts.items) (no_spans : part_spans narrowed.none ≡ []) (none : (table : ℕ) → slice_get narrowed.parts.items table ≡ None → spans table ≡ []) where
    pub whole_spans : (table : ℕ) → narrow_spans narrowed table ≡ spans table
    whole_spans table = by (slice_get narrowed.parts.items table) refl
      where
        by : (found : Option (Part M)) → slice_get narrowed.parts.items table ≡ found → part_spans (unwrap_or found narrowed.none) ≡ spans table
        by (Some part) is = (all.each table part is).0
        by None is = no_spans ∙ sym (none table is)

    pub whole_versions : (version table : ℕ) → narrow_versions narrowed version table ≡ versions_with spans known version table
    whole_versions version table = by (slice_get narrowed.parts.items table) refl
      where
        by : (found : Option (Part M)) → slice_get narrowed.parts.items table ≡ found
            → span_rows version (part_spans (unwrap_or found narrowed.none)) (part_annotations (unwrap_or found narrowed.none)) ≡ span_rows version (spans table) (slice_index_or known table [])
        by (Some part) is = λ i. span_rows version ((all.each table part is).0 i) ((all.each table part is).1 i)
        by None is =
            ap (λ (some : List Span). span_rows version some (part_annotations narrowed.none)) no_spans
            ∙ sym (ap (λ (some : List Span). span_rows version some (slice_index_or known table [])) (none table is))
