-- The row versions that matter to a commit, found by what they have.
use Rattle.std.proofs.Common.{◌≡◌, ◌+◌, inl, inr, ℕ, zero, suc, ◌<◌, ◌≤◌, ◌==◌, ◌⊎◌, Bool, true, false, cond, List, [], ◌∷◌, ◌++◌, length, refl, sym, ap, ◌∙◌, subst, arith, Option, Some, None, IfSome, Contains, nat_le, slice_get}
use Rattle.std.specs.Prelude.{◌&&◌, ◌||◌, not, drop, filter, slice_index_or}
use Rattle.std.specs.List.{list_all, list_any}
use Rattle.std.specs.Ordering.{nat_cmp}
use Rattle.std.proofs.lemmas.Bool.{and_parts, cases_lt, eqb-true, false_from_ne_true, false≢true, or_parts}
use Rattle.std.proofs.lemmas.Bool.Decides.{nat_tests}
use Rattle.std.proofs.lemmas.List.{append_assoc, append-nil}
use Rattle.std.proofs.lemmas.List.Elements.{Contains-append_left, Contains-push}
use Rattle.std.proofs.lemmas.List.Sorted.{IsNonDecreasingBy-from_sort}
use Rattle.gp_base.specs.declared.cell.Cell.{Cell}
use Rattle.gp_base.specs.IdentityParts.{identity_transaction}
use Rattle.gp_algebra.specs.Statements.{Branch, Statement}
use Rattle.gp_compose.specs.Composed.{last_write, writes}
use Rattle.gp_machine.specs.Entries.{Log}
use Rattle.gp_versions.specs.declared.finder.Finder.{Finder}
use Rattle.gp_versions.specs.declared.finder.Wanted.{Wanted}
use Rattle.gp_versions.specs.declared.places.InColumn.{InColumn}
use Rattle.gp_versions.specs.declared.span.Span.{Span}
use Rattle.gp_versions.specs.Finding.{AreAscending, AreFound, HasThose, IsFinder}
use Rattle.gp_versions.specs.Places.{are_equal, cell_at}
use Rattle.gp_versions.specs.Spans.{is_before_end}
use Rattle.gp_history.specs.Narrowing as n
use Rattle.gp_history.specs.Narrowing.{IsFound, chosen_with, is_held, is_left, leaves, listed, only, part_annotations, part_spans, row_stays, statements_upto}
use Rattle.gp_history.specs.Seeking.{AreFinders, Grows, HasOne, has_cell}
use Rattle.gp_history.specs.declared.narrowed.Part.{Part}
use Rattle.gp_history.specs.declared.narrowed.Reach.{Reach}
use Rattle.gp_history.proofs.NarrowLemmas.{not_false}
use Rattle.gp_history.proofs.NarrowedLemmas.{next_dropped}

-- ---- cells

-- more cells are asked for
pub one-more : (row : List Cell) (few cells : List InColumn) → Grows few cells → HasOne row few → HasOne row cells
one-more row few cells grows one = (one.0, (grows one.0 one.1.0, one.1.1))

pub one-pushed : (row : List Cell) (cells : List InColumn) (own : InColumn) → has_cell row own ≡ true → HasOne row (cells ++ own ∷ [])
one-pushed row cells own is = (own, (Contains-push cells own, is))

pub grows-pushed : (cells : List InColumn) (own : InColumn) → Grows cells (cells ++ own ∷ [])
grows-pushed cells own one there = Contains-append_left cells (own ∷ []) one there

-- a row that a test of all refuses has a cell, or a test that remains refuses it
abbrev pub Seeks : {X : Type 0} → (List Cell → X → Bool) → List X → List X → List InColumn → Type 0
Seeks test all rest cells = (row : List Cell) → list_all (test row) all ≡ false → HasOne row cells ⊎ (list_all (test row) rest ≡ false)

pub seeks-next : {X : Type 0} (test : List Cell → X → Bool) (all rest : List X) (x : X) (few cells : List InColumn) → Grows few cells → ((row : List Cell) → test row x ≡ false → HasOne row cells)
    → Seeks test all (x ∷ rest) few → Seeks test all rest cells
seeks-next test all rest x few cells grows here seeks row refused = by (seeks row refused)
  where
    split : (b : Bool) → test row x ≡ b → (b && list_all (test row) rest) ≡ false → HasOne row cells ⊎ (list_all (test row) rest ≡ false)
    split false is left = inl (here row is)
    split true is left = inr left

    by : HasOne row few ⊎ ((test row x && list_all (test row) rest) ≡ false) → HasOne row cells ⊎ (list_all (test row) rest ≡ false)
    by (inl one) = inl (one-more row few cells grows one)
    by (inr left) = split (test row x) refl left

pub seeks-all : {X : Type 0} (test : List Cell → X → Bool) (all : List X) (cells : List InColumn) → Seeks test all [] cells → (row : List Cell) → list_all (test row) all ≡ false → HasOne row cells
seeks-all test all cells seeks row refused = by (seeks row refused)
  where
    by : HasOne row cells ⊎ (list_all (test row) [] ≡ false) → HasOne row cells
    by (inl one) = one
    by (inr left) = absurd (false≢true (sym left))

-- nothing remains of a list
pub dropped-all : {X : Type 0} (n : ℕ) (xs : List X) → length xs ≤ n → drop n xs ≡ []
dropped-all zero [] past = refl
dropped-all zero (x ∷ xs) past = absurd (omega (arith, past))
dropped-all (suc n) [] past = refl
dropped-all (suc n) (x ∷ xs) past = dropped-all n xs (omega (arith, past))

-- ---- spans

not-before : (v to : ℕ) → is_before_end v (Some to) ≡ false → to ≤ v
not-before v to e = grind (arith, nat_tests)

before : (v to : ℕ) → is_before_end v (Some to) ≡ true → v < to
before v to e = grind (arith, nat_tests)

not-within : (from v : ℕ) → nat_le from v ≡ false → v < from
not-within from v e = grind (arith, nat_tests)

within-is : (from v : ℕ) → nat_le from v ≡ true → from ≤ v
within-is from v e = grind (arith, nat_tests)

and-cases : (a b : Bool) → (a && b) ≡ false → (a ≡ false) ⊎ (b ≡ false)
and-cases true b e = inr e
and-cases false b e = inl refl

not-true : (b : Bool) → not b ≡ false → b ≡ true
not-true true e = refl
not-true false e = absurd (false≢true (sym e))

-- a span that is left was found
pub left-found : (reach : Reach) (t : ℕ) (statements : List Statement) (table : ℕ) (spans : List Span) (wanted : Wanted) (places : List ℕ) → wanted.first ≡ reach.first → wanted.last ≡ reach.last → wanted.t ≡ t
    → ((row : List Cell) → list_all (leaves table row) statements ≡ false → HasOne row wanted.cells.now) → AreFound wanted spans places
    → HasThose (λ span. is_left reach t statements table span ≡ true) spans places
left-found reach t statements table spans wanted places first last own seeks found q span at left =
    let parts = and_parts (n.meets reach span) (not (row_stays reach t statements table span)) left in
    let met = and_parts (nat_le span.from reach.last) (is_before_end reach.first span.to) parts.0 in
    by met.0 met.1 (and-cases (is_held reach span) (not (identity_transaction span.id == t) && list_all (leaves table span.row) statements) (not_false (row_stays reach t statements table span) parts.1))
  where
    ends : (to : Option ℕ) → span.to ≡ to → is_before_end reach.first to ≡ true → is_before_end reach.last to ≡ false → Contains places q
    ends None is early late = absurd (false≢true (sym late))
    ends (Some to) is early late =
        let above = before reach.first to early in
        let below = not-before reach.last to late in
        found.ended to (omega (arith, first, above)) (omega (arith, last, below)) q span at is

    outside : nat_le span.from reach.last ≡ true → is_before_end reach.first span.to ≡ true → (nat_le span.from reach.first ≡ false) ⊎ (is_before_end reach.last span.to ≡ false) → Contains places q
    outside low high (inl late) =
        let above = not-within span.from reach.first late in
        let below = within-is span.from reach.last low in
        found.begun q span at (omega (arith, first, above), omega (arith, last, below))
    outside low high (inr early) = ends span.to refl high early

    asked : HasOne span.row wanted.cells.now → Contains places q
    asked one = found.cells one.0 one.1.0 q span at one.1.1

    inside : (not (identity_transaction span.id == t) ≡ false) ⊎ (list_all (leaves table span.row) statements ≡ false) → Contains places q
    inside (inl mine) = found.own q span at (eqb-true (identity_transaction span.id) t (not-true (identity_transaction span.id == t) mine) ∙ sym own)
    inside (inr refused) = asked (seeks span.row refused)

    by : nat_le span.from reach.last ≡ true → is_before_end reach.first span.to ≡ true → (is_held reach span ≡ false) ⊎ ((not (identity_transaction span.id == t) && list_all (leaves table span.row) statements) ≡ false) → Contains places q
    by low high (inl away) = outside low high (and-cases (nat_le span.from reach.first) (is_before_end reach.last span.to) away)
    by low high (inr other) = inside (and-cases (not (identity_transaction span.id == t)) (list_all (leaves table span.row) statements) other)

-- ---- places

-- none of the spans from one place up to another passes
skip-filter : (p : Span → Bool) (spans : List Span) (a b : ℕ) → a ≤ b → ((q : ℕ) (span : Span) → a ≤ q → q < b → slice_get spans q ≡ Some span → p span ≡ false) → filter p (drop a spans) ≡ filter p (drop b spans)
skip-filter p [] zero zero l none = refl
skip-filter p [] zero (suc b) l none = refl
skip-filter p [] (suc a) zero l none = refl
skip-filter p [] (suc a) (suc b) l none = refl
skip-filter p (span ∷ spans) zero zero l none = refl
skip-filter p (span ∷ spans) zero (suc b) l none =
    ap (λ c. cond c (span ∷ filter p spans) (filter p spans)) (none zero span (omega arith) (omega arith) refl)
    ∙ skip-filter p spans zero b (omega arith) (λ q one above below at. none (suc q) one (omega arith) (omega (arith, below)) at)
skip-filter p (span ∷ spans) (suc a) zero l none = absurd (omega (arith, l))
skip-filter p (span ∷ spans) (suc a) (suc b) l none =
    skip-filter p spans a b (omega (arith, l)) (λ q one above below at. none (suc q) one (omega (arith, above)) (omega (arith, below)) at)

skip-chosen : {M : Type 0} (p : Span → Bool) (spans : List Span) (annotations : List M) (a b : ℕ) → length annotations ≡ length spans → a ≤ b → ((q : ℕ) (span : Span) → a ≤ q → q < b → slice_get spans q ≡ Some span → p span ≡ false)
    → chosen_with p (drop a spans) (drop a annotations) ≡ chosen_with p (drop b spans) (drop b annotations)
skip-chosen p [] annotations zero zero same l none = refl
skip-chosen p [] annotations zero (suc b) same l none = refl
skip-chosen p [] annotations (suc a) zero same l none = refl
skip-chosen p [] annotations (suc a) (suc b) same l none = refl
skip-chosen p (span ∷ spans) [] a b same l none = absurd (omega (arith, same))
skip-chosen p (span ∷ spans) (annotation ∷ annotations) zero zero same l none = refl
skip-chosen p (span ∷ spans) (annotation ∷ annotations) zero (suc b) same l none =
    ap (λ c. cond c (annotation ∷ chosen_with p spans annotations) (chosen_with p spans annotations)) (none zero span (omega arith) (omega arith) refl)
    ∙ skip-chosen p spans annotations zero b (omega (arith, same)) (omega arith) (λ q one above below at. none (suc q) one (omega arith) (omega (arith, below)) at)
skip-chosen p (span ∷ spans) (annotation ∷ annotations) (suc a) zero same l none = absurd (omega (arith, l))
skip-chosen p (span ∷ spans) (annotation ∷ annotations) (suc a) (suc b) same l none =
    skip-chosen p spans annotations a b (omega (arith, same)) (omega (arith, l)) (λ q one above below at. none (suc q) one (omega (arith, above)) (omega (arith, below)) at)

-- none of the spans from a place on passes
end-filter : (p : Span → Bool) (spans : List Span) (a : ℕ) → ((q : ℕ) (span : Span) → a ≤ q → slice_get spans q ≡ Some span → p span ≡ false) → filter p (drop a spans) ≡ []
end-filter p [] zero none = refl
end-filter p [] (suc a) none = refl
end-filter p (span ∷ spans) zero none =
    ap (λ c. cond c (span ∷ filter p spans) (filter p spans)) (none zero span (omega arith) refl) ∙ end-filter p spans zero (λ q one above at. none (suc q) one (omega arith) at)
end-filter p (span ∷ spans) (suc a) none = end-filter p spans a (λ q one above at. none (suc q) one (omega (arith, above)) at)

end-chosen : {M : Type 0} (p : Span → Bool) (spans : List Span) (annotations : List M) (a : ℕ) → length annotations ≡ length spans → ((q : ℕ) (span : Span) → a ≤ q → slice_get spans q ≡ Some span → p span ≡ false)
    → chosen_with p (drop a spans) (drop a annotations) ≡ []
end-chosen p [] annotations zero same none = refl
end-chosen p [] annotations (suc a) same none = refl
end-chosen p (span ∷ spans) [] a same none = absurd (omega (arith, same))
end-chosen p (span ∷ spans) (annotation ∷ annotations) zero same none =
    ap (λ c. cond c (annotation ∷ chosen_with p spans annotations) (chosen_with p spans annotations)) (none zero span (omega arith) refl)
    ∙ end-chosen p spans annotations zero (omega (arith, same)) (λ q one above at. none (suc q) one (omega arith) at)
end-chosen p (span ∷ spans) (annotation ∷ annotations) (suc a) same none = end-chosen p spans annotations a (omega (arith, same)) (λ q one above at. none (suc q) one (omega (arith, above)) at)

-- a place that is neither behind the last one nor past the end is looked at already
pub behind-next : (place next count : ℕ) → (next ≤ place → place < count → ⊥) → place < count → place < next
behind-next place next count none below = by (cases_lt place next)
  where
    by : (place < next) ⊎ (next ≤ place) → place < next
    by (inl earlier) = earlier
    by (inr later) = absurd (none later below)

-- a number of a list, whatever stands in for those that are not there
pub read : (xs : List ℕ) (j i d : ℕ) → j < length xs → slice_index_or xs j i ≡ slice_index_or xs j d
read [] j i d l = absurd (omega (arith, l))
read (x ∷ xs) zero i d l = refl
read (x ∷ xs) (suc j) i d l = read xs j i d (omega (arith, l))

got-within : {X : Type 0} (xs : List X) (q : ℕ) (x : X) → slice_get xs q ≡ Some x → q < length xs
got-within [] q x at = absurd (cc)
got-within (y ∷ xs) zero x at = omega arith
got-within (y ∷ xs) (suc q) x at = let rest = got-within xs q x at in omega (arith, rest)

-- The spans below a place are decided: those that pass are left, and so are those at the places that were looked at.
pub record Looked {M : Type 0} (p : Span → Bool) (spans : List Span) (annotations : List M) (places : List ℕ) (part : Part M) (next index : ℕ) : Type 0 where
  pub spans_go : part_spans part ++ filter p (drop next spans) ≡ filter p spans
  pub annotations_go : part_annotations part ++ chosen_with p (drop next spans) (drop next annotations) ≡ chosen_with p spans annotations
  pub none : part.left_out ≡ 0
  pub before : (k : ℕ) (d : ℕ) → k < index → k < length places → slice_index_or places k d < length spans → slice_index_or places k d < next

module _ {M : Type 0} (p : Span → Bool) (spans : List Span) (annotations : List M) (same : length annotations ≡ length spans) (places : List ℕ) (has : HasThose (λ span. p span ≡ true) spans places) where
  pub looked-first : (part : Part M) → part_spans part ≡ [] → part_annotations part ≡ [] → part.left_out ≡ 0 → Looked p spans annotations places part 0 0
  looked-first part no_spans no_annotations none = record {
    spans_go = ap (λ (some : List Span). some ++ filter p spans) no_spans;
    annotations_go = ap (λ (some : List M). some ++ chosen_with p spans annotations) no_annotations;
    none = none;
    before = λ k d below. absurd (omega (arith, below));
  }

  -- a place that is looked at already, or has no span
  pub looked-past : (part : Part M) (next index i : ℕ) → index < length places → i ≡ slice_index_or places index i → (i < length spans → i < next) → Looked p spans annotations places part next index → Looked p spans annotations places part next (index + 1)
  looked-past part next index i within is past looked = record {
    spans_go = looked.spans_go;
    annotations_go = looked.annotations_go;
    none = looked.none;
    before = before;
  }
    where
      before : (k : ℕ) (d : ℕ) → k < index + 1 → k < length places → slice_index_or places k d < length spans → slice_index_or places k d < next
      before k d below there small = by (cases_lt k index)
        where
          by : (k < index) ⊎ (index ≤ k) → slice_index_or places k d < next
          by (inl earlier) = looked.before k d earlier there small
          by (inr later) =
              let e : index ≡ k = omega (arith, below, later) in
              let here : i ≡ slice_index_or places k d = is ∙ read places index i d within ∙ ap (λ j. slice_index_or places j d) e in
              subst (λ place. place < next) here (past (subst (λ place. place < length spans) (sym here) small))

  -- the spans between the last one and this one do not pass
  skipped : (part : Part M) (next index i : ℕ) → AreAscending places → index < length places → i ≡ slice_index_or places index i → Looked p spans annotations places part next index
      → (q : ℕ) (span : Span) → next ≤ q → q < i → slice_get spans q ≡ Some span → p span ≡ false
  skipped part next index i ascending within is looked q span above below at = false_from_ne_true (p span) (λ passes. wrong (has q span at passes))
    where
      rises : (k : ℕ) → index ≤ k → k < length places → slice_index_or places index i ≤ slice_index_or places k i
      rises k le there = IsNonDecreasingBy-from_sort (λ x. x) places ascending index k i le there

      wrong : Contains places q → ⊥
      wrong (k, there, here) = by (cases_lt k index)
        where
          by : (k < index) ⊎ (index ≤ k) → ⊥
          by (inl earlier) =
              let early = looked.before k q earlier there (subst (λ place. place < length spans) (sym here) (got-within spans q span at)) in
              omega (arith, early, here, above)
          by (inr later) =
              let up = rises k later there in
              let same_place : slice_index_or places k i ≡ q = read places k i q there ∙ here in
              omega (arith, up, same_place, is, below)

  -- the span at the place is looked at
  pub looked-next : (part new : Part M) (next index i : ℕ) (span : Span) (annotation : M) (left : Bool) → AreAscending places → index < length places → i ≡ slice_index_or places index i → next ≤ i → i < length spans
      → span ≡ slice_index_or spans i span → annotation ≡ slice_index_or annotations i annotation → left ≡ p span
      → part_spans new ≡ part_spans part ++ only left span → part_annotations new ≡ part_annotations part ++ only left annotation → new.left_out ≡ part.left_out
      → Looked p spans annotations places part next index → Looked p spans annotations places new (i + 1) (index + 1)
  looked-next part new next index i span annotation left ascending within is le below of_span of_annotation is_left more_spans more_annotations kept looked = record {
    spans_go =
        ap (λ (some : List Span). some ++ filter p (drop (i + 1) spans)) more_spans
        ∙ append_assoc (part_spans part) (only left span) (filter p (drop (i + 1) spans))
        ∙ ap (λ (some : List Span). part_spans part ++ some) (ap (λ b. only b span ++ filter p (drop (i + 1) spans)) is_left ∙ joined (p span) span (filter p (drop (i + 1) spans)) ∙ sym here_spans)
        ∙ looked.spans_go;
    annotations_go =
        ap (λ (some : List M). some ++ chosen_with p (drop (i + 1) spans) (drop (i + 1) annotations)) more_annotations
        ∙ append_assoc (part_annotations part) (only left annotation) (chosen_with p (drop (i + 1) spans) (drop (i + 1) annotations))
        ∙ ap (λ (some : List M). part_annotations part ++ some) (ap (λ b. only b annotation ++ chosen_with p (drop (i + 1) spans) (drop (i + 1) annotations)) is_left ∙ joined (p span) annotation (chosen_with p (drop (i + 1) spans) (drop (i + 1) annotations)) ∙ sym here_annotations)
        ∙ looked.annotations_go;
    none = kept ∙ looked.none;
    before = before;
  }
    where
      joined : {X : Type 0} (b : Bool) (x : X) (xs : List X) → only b x ++ xs ≡ cond b (x ∷ xs) xs
      joined true x xs = refl
      joined false x xs = refl

      here_spans : filter p (drop next spans) ≡ cond (p span) (span ∷ filter p (drop (i + 1) spans)) (filter p (drop (i + 1) spans))
      here_spans = skip-filter p spans next i le (skipped part next index i ascending within is looked) ∙ ap (filter p) (next_dropped spans i span below of_span)

      here_annotations : chosen_with p (drop next spans) (drop next annotations) ≡ cond (p span) (annotation ∷ chosen_with p (drop (i + 1) spans) (drop (i + 1) annotations)) (chosen_with p (drop (i + 1) spans) (drop (i + 1) annotations))
      here_annotations =
          skip-chosen p spans annotations next i same le (skipped part next index i ascending within is looked)
          ∙ (λ j. chosen_with p (next_dropped spans i span below of_span j) (next_dropped annotations i annotation (omega (arith, same, below)) of_annotation j))

      before : (k : ℕ) (d : ℕ) → k < index + 1 → k < length places → slice_index_or places k d < length spans → slice_index_or places k d < i + 1
      before k d earlier there small =
          let up = IsNonDecreasingBy-from_sort (λ x. x) places ascending k index d (omega (arith, earlier)) within in
          let here = read places index i d within in
          omega (arith, up, here, is)

  -- all places are looked at
  pub looked-all : (part : Part M) (next index : ℕ) → length places ≤ index → Looked p spans annotations places part next index → IsFound p spans annotations part
  looked-all part next index all looked = record {
    spans_are = sym (append-nil (part_spans part)) ∙ ap (λ (some : List Span). part_spans part ++ some) (sym (end-filter p spans next rest)) ∙ looked.spans_go;
    annotations_are = sym (append-nil (part_annotations part)) ∙ ap (λ (some : List M). part_annotations part ++ some) (sym (end-chosen p spans annotations next same rest)) ∙ looked.annotations_go;
    none = looked.none;
  }
    where
      rest : (q : ℕ) (span : Span) → next ≤ q → slice_get spans q ≡ Some span → p span ≡ false
      rest q span above at = false_from_ne_true (p span) (λ passes. wrong (has q span at passes))
        where
          wrong : Contains places q → ⊥
          wrong (k, there, here) =
              let early = looked.before k q (omega (arith, there, all)) there (subst (λ place. place < length spans) (sym here) (got-within spans q span at)) in
              omega (arith, early, here, above)

-- ---- finders

pub finder-at : (spans : ℕ → List Span) (finders : List Finder) (table : ℕ) → AreFinders spans finders → IfSome (slice_get finders table) (IsFinder (spans table))
finder-at spans finders table are = by (slice_get finders table) refl
  where
    by : (found : Option Finder) → slice_get finders table ≡ found → IfSome found (IsFinder (spans table))
    by None is = tt
    by (Some finder) is = are table finder is

-- ---- tables that no statement writes

any-parts : {X : Type 0} (p : X → Bool) (xs ys : List X) → list_any p (xs ++ ys) ≡ false → (list_any p xs ≡ false) × (list_any p ys ≡ false)
any-parts p [] ys none = (refl, none)
any-parts p (x ∷ xs) ys none =
    let parts = or_parts (p x) (list_any p (xs ++ ys)) none in
    let rest = any-parts p xs ys parts.1 in (
      (λ i. parts.0 i || rest.0 i),
      rest.1,
    )

pub unwritten-all : (log : Log) (t count table : ℕ) → list_any (λ statement. writes (Some statement) table) (statements_upto log t count) ≡ false → last_write log t count table ≡ None
unwritten-all log t zero table none = refl
unwritten-all log t (suc k) table none =
    let parts = any-parts (λ statement. writes (Some statement) table) (statements_upto log t k) (listed (log.statement t (suc k))) none in
    ap (λ b. cond b (Some (suc k)) (last_write log t k table)) (last (log.statement t (suc k)) parts.1) ∙ unwritten-all log t k table parts.0
  where
    last : (found : Option Statement) → list_any (λ statement. writes (Some statement) table) (listed found) ≡ false → writes found table ≡ false
    last None none = refl
    last (Some statement) none = (or_parts (writes (Some statement) table) false none).0
