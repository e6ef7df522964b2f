-- The spans of a table of a history, in the order of a dump, are in their places: they rise strictly, and no span of a row reaches into its next.
use Rattle.gp_dump.proofs.Prelude.{◌≡◌, ◌<◌, ◌≤◌, ℕ, zero, suc, true, false, true≢false, ◌&&◌, ◌||◌, ◌==◌, nat_lt, cond, List, [], ◌∷◌, length, Option, Some, None, slice_get, if◌then◌else◌, refl, sym, ap, subst, ◌∙◌, arith, ◌⊎◌, inl, inr, ⊎_elim, AllByRecursion, filter, Ordering, Less, Equal, Greater, is_le, is_lt, is_eq, ordering_reverse, ordering_then, nat_cmp, exact_unsigned, nat_tests, same_identity-is, Annotated, Identity, identity_cmp, same_identity, identity_cmp_total, identity_cmp-exact, insert_sorted, sorted_by, Column, Table, Written, Span, span_cmp, each_weaker, AreWhole, IsApart, IsEndAbove, NoOverlap, is_written, IsReadable, le-leb, lt-ltb, each_append, each_map, span_cmp_total, same-itself}
use Rattle.std.specs.Prelude.{IsSomeAnd}
use Rattle.std.specs.Cmp.{tied_itself}
use Rattle.gp_base.specs.Annotated.{Environment}
use Rattle.gp_versions.specs.Commits.{AreBelow, IsBelow, IsEndBelow}
use Rattle.gp_machine.proofs.Distinct.{each_all, each_both}
use Rattle.gp_machine.specs.HistorySpans.{spans_from, spans_upto}
use Rattle.gp_dump.specs.Dumps.{ends_within, fits_columns, has_ended_by, is_after, is_next}
use Rattle.gp_dump.specs.WholeDumps.{AreInPlace}
use Rattle.gp_dump.proofs.StepKinds.{Fits}

abbrev pub Pairwise : {X : Type 0} → (X → X → Type 0) → List X → Type 0
Pairwise R [] = Unit {0}
Pairwise R (x ∷ xs) = AllByRecursion (R x) xs × Pairwise R xs

pairwise_both : {X : Type 0} (P Q R : X → X → Type 0) → ((x y : X) → Q x y → R x y → P x y) → (xs : List X) → Pairwise Q xs → Pairwise R xs → Pairwise P xs
pairwise_both P Q R g [] a b = tt
pairwise_both P Q R g (x ∷ xs) a b = (each_both (P x) (Q x) (R x) (g x) xs a.0 b.0, pairwise_both P Q R g xs a.1 b.1)

-- ---- in either order

-- of one row, one of two spans has ended when the other begins
abbrev Clear : Span → Span → Type 0
Clear a b = a.id ≡ b.id → ((a.from < b.from) × (has_ended_by a.to b.from ≡ true)) ⊎ ((b.from < a.from) × (has_ended_by b.to a.from ≡ true))

turned : (a b : Span) → Clear a b → Clear b a
turned a b c same = ⊎_elim (λ x. inr x) (λ x. inl x) (c (sym same))

apart_clear : (a b : Span) → IsEndAbove a.from a.to → IsApart a b → Clear a b
apart_clear a b whole apart same = inl (go a.to whole (apart (ap (λ id. same_identity id b.id) same ∙ same-itself b.id)))
  where
    go : (to : Option ℕ) → IsEndAbove a.from to → IsSomeAnd to (λ to. to ≤ b.from) → (a.from < b.from) × (has_ended_by to b.from ≡ true)
    go None w s = absurd s
    go (Some to) w s = (omega (arith, w, s), le-leb to b.from s)

all_clear : (spans : List Span) → AreWhole spans → NoOverlap spans → Pairwise Clear spans
all_clear [] whole apart = tt
all_clear (span ∷ spans) whole apart = (each_weaker (Clear span) (IsApart span) (λ other a. apart_clear span other whole.0 a) spans apart.0, all_clear spans whole.1 apart.1)

-- ---- sorting

module _ {T : Type 0} (cmp : T → T → Ordering) where
  inserted_each : (P : T → Type 0) (x : T) (ys : List T) → P x → AllByRecursion P ys → AllByRecursion P (insert_sorted cmp x ys)
  inserted_each P x [] px all = (px, tt)
  inserted_each P x (y ∷ ys) px all =
      elim (is_le (cmp x y)) as (λ b. AllByRecursion P (if b then x ∷ y ∷ ys else y ∷ insert_sorted cmp x ys)) [ true ↦ (px, (all.0, all.1)) | false ↦ (all.0, inserted_each P x ys px all.1) ]

  pub sorted_each : (P : T → Type 0) (xs : List T) → AllByRecursion P xs → AllByRecursion P (sorted_by cmp xs)
  sorted_each P [] all = tt
  sorted_each P (x ∷ xs) all = inserted_each P x (sorted_by cmp xs) all.0 (sorted_each P xs all.1)

  -- what holds of any two, in either order, holds of any two of the sorted list
  module _ (R : T → T → Type 0) (symmetric : (x y : T) → R x y → R y x) where
    inserted_pairwise : (x : T) (ys : List T) → AllByRecursion (R x) ys → Pairwise R ys → Pairwise R (insert_sorted cmp x ys)
    inserted_pairwise x [] each all = (tt, tt)
    inserted_pairwise x (y ∷ ys) each all =
        elim (is_le (cmp x y)) as (λ b. Pairwise R (if b then x ∷ y ∷ ys else y ∷ insert_sorted cmp x ys)) [
          | true ↦ (each, all)
          | false ↦ (inserted_each (R y) x ys (symmetric x y each.0) all.0, inserted_pairwise x ys each.1 all.1)
        ]

    sorted_pairwise : (xs : List T) → Pairwise R xs → Pairwise R (sorted_by cmp xs)
    sorted_pairwise [] all = tt
    sorted_pairwise (x ∷ xs) all = inserted_pairwise x (sorted_by cmp xs) (sorted_each (R x) xs all.0) (sorted_pairwise xs all.1)

  inserted_length : (x : T) (ys : List T) → length (insert_sorted cmp x ys) ≡ suc (length ys)
  inserted_length x [] = refl
  inserted_length x (y ∷ ys) = elim (is_le (cmp x y)) as (λ b. length (if b then x ∷ y ∷ ys else y ∷ insert_sorted cmp x ys) ≡ suc (suc (length ys))) [ true ↦ refl | false ↦ ap suc (inserted_length x ys) ]

  pub sorted_length : (xs : List T) → length (sorted_by cmp xs) ≡ length xs
  sorted_length [] = refl
  sorted_length (x ∷ xs) = inserted_length x (sorted_by cmp xs) ∙ ap suc (sorted_length xs)

-- ---- strictly rising

cmp_less : (a b : ℕ) → nat_cmp a b ≡ Less → a < b
cmp_less a b e =
    elim (nat_lt a b) as (λ t. nat_lt a b ≡ t → cond t Less (cond (a == b) Equal Greater) ≡ Less → a < b) [
      | true ↦ λ is f. grind (arith, nat_tests)
      | false ↦ λ is f. elim (a == b) as (λ t. cond t Equal Greater ≡ Less → a < b) [ true ↦ λ g. cc | false ↦ λ g. cc ] f
    ] refl e

not_equal : (o : Ordering) → (o ≡ Equal → ⊥) → is_le o ≡ true → o ≡ Less
not_equal Less n e = refl
not_equal Equal n e = absurd (n refl)
not_equal Greater n e = absurd (true≢false (sym e))

not_less : (o : Ordering) → is_le o ≡ false → ordering_reverse o ≡ Less
not_less Less e = absurd (true≢false e)
not_less Equal e = absurd (true≢false e)
not_less Greater e = refl

abbrev Below : Span → Span → Type 0
Below a b = span_cmp a b ≡ Less

-- two that are clear of each other are not alike
differ : (a b : Span) → Clear a b → span_cmp a b ≡ Equal → ⊥
differ a b clear e =
    let both = parts (identity_cmp a.id b.id) (nat_cmp a.from b.from) e in
    let same : a.from ≡ b.from = exact_unsigned a.from b.from both.1 in
    ⊎_elim (λ x. absurd (omega (arith, x.0, same))) (λ x. absurd (omega (arith, x.0, same))) (clear (identity_cmp-exact a.id b.id both.0))
  where
    parts : (o p : Ordering) → ordering_then o p ≡ Equal → (o ≡ Equal) × (p ≡ Equal)
    parts Less p e = cc
    parts Equal p e = (refl, e)
    parts Greater p e = cc

inserted_below : (x : Span) (ys : List Span) → AllByRecursion (Clear x) ys → Pairwise Below ys → Pairwise Below (insert_sorted span_cmp x ys)
inserted_below x [] clear all = (tt, tt)
inserted_below x (y ∷ ys) clear all =
    elim (is_le (span_cmp x y)) as (λ b. is_le (span_cmp x y) ≡ b → Pairwise Below (if b then x ∷ y ∷ ys else y ∷ insert_sorted span_cmp x ys)) [
      | true ↦ λ e.
          let below : Below x y = not_equal (span_cmp x y) (differ x y clear.0) e in
          ((below, each_weaker (Below x) (Below y) (λ z l. span_cmp_total.trans x y z below l) ys all.0), all)
      | false ↦ λ e.
          let above : Below y x = span_cmp_total.antisymm y x ∙ not_less (span_cmp x y) e in
          (inserted_each span_cmp (Below y) x ys above all.0, inserted_below x ys clear.1 all.1)
    ] refl

sorted_below : (xs : List Span) → Pairwise Clear xs → Pairwise Below (sorted_by span_cmp xs)
sorted_below [] clear = tt
sorted_below (x ∷ xs) clear = inserted_below x (sorted_by span_cmp xs) (sorted_each span_cmp (Clear x) xs clear.0) (sorted_below xs clear.1)

-- what is below and clear may be before
below_after : (a b : Span) → Below a b → Clear a b → is_after a b ≡ true
below_after a b below clear = go (identity_cmp a.id b.id) refl below
  where
    equal : identity_cmp a.id b.id ≡ Equal → nat_cmp a.from b.from ≡ Less → (same_identity a.id b.id && (nat_lt a.from b.from && has_ended_by a.to b.from)) ≡ true
    equal e l =
        let same : a.id ≡ b.id = identity_cmp-exact a.id b.id e in
        let less : a.from < b.from = cmp_less a.from b.from l in
        let ends : has_ended_by a.to b.from ≡ true = ⊎_elim (λ x. x.1) (λ x. absurd (omega (arith, x.0, less))) (clear same) in
        rw (ap (λ id. same_identity id b.id) same ∙ same-itself b.id, lt-ltb a.from b.from less) ends

    go : (o : Ordering) → identity_cmp a.id b.id ≡ o → ordering_then o (nat_cmp a.from b.from) ≡ Less → (is_lt o || (same_identity a.id b.id && (nat_lt a.from b.from && has_ended_by a.to b.from))) ≡ true
    go Less e l = refl
    go Equal e l = equal e l
    go Greater e l = cc

-- ---- the spans of a history

-- a span begins at version 1 at the earliest
pub spans_begin : {M : Type 0} (versions : ℕ) (committed : Environment M) (written : ℕ → List Written) (table m : ℕ) → AllByRecursion (λ (span : Span). 1 ≤ span.from) (spans_upto versions committed written table m)
spans_begin versions committed written table zero = tt
spans_begin {M} versions committed written table (suc m) =
    each_append (λ (span : Span). 1 ≤ span.from) (spans_upto versions committed written table m) (spans_from versions committed written table (suc m)) (spans_begin versions committed written table m)
    (each_map (λ (span : Span). 1 ≤ span.from) (λ row. Unit {0}) _ (λ row t. omega arith) _ (each_all _ (λ row. tt) (filter (λ (row : Annotated M). is_written table row.identity (written (suc m))) (committed (suc m) table))))

-- what a row line says of itself
record IsRight (cols : List Column) (versions : ℕ) (span : Span) : Type 0 where
  pub identity : IsReadable span.id
  pub cells : fits_columns cols span.row ≡ true
  pub first : 1 ≤ span.from
  pub below : IsBelow (suc versions) span
  pub whole : IsEndAbove span.from span.to

ends : (versions from : ℕ) (to : Option ℕ) → IsEndAbove from to → IsEndBelow (suc versions) to → ends_within versions from to ≡ true
ends versions from None above below = refl
ends versions from (Some to) above below = rw (lt-ltb from to above) (le-leb to versions (omega (arith, below)))

in_place : (cols : List Column) (versions : ℕ) (before xs : List Span) → AllByRecursion (λ x. is_next before x ≡ true) xs → Pairwise (λ a b. is_after a b ≡ true) xs → AllByRecursion (IsRight cols versions) xs → AreInPlace cols versions before xs
in_place cols versions before [] first all right = tt
in_place cols versions before (x ∷ xs) first all right =
    let r : IsRight cols versions x = right.0 in
    let f = r.first in
    let b = r.below.0 in (
      record {
        identity = r.identity;
        cells = r.cells;
        place = rw (le-leb 1 x.from f, le-leb x.from versions (omega (arith, b)), ends versions x.from x.to r.whole r.below.1) first.0;
      },
      in_place cols versions (x ∷ before) xs all.0 all.1 right.1,
    )

-- spans in the order of a dump: each may be before every later one
pub sorted_after : (spans : List Span) → NoOverlap spans → AreWhole spans → Pairwise (λ a b. is_after a b ≡ true) (sorted_by span_cmp spans)
sorted_after spans apart whole =
    let clear : Pairwise Clear spans = all_clear spans whole apart in
    pairwise_both (λ a b. is_after a b ≡ true) Below Clear below_after (sorted_by span_cmp spans) (sorted_below spans clear) (sorted_pairwise span_cmp Clear turned spans clear)

module _ (tables : List Table) (place : ℕ) (table : Table) (there : slice_get tables place ≡ Some table) (versions : ℕ) (spans : List Span) where
  pub all_in_place : NoOverlap spans → AreWhole spans → AreBelow (suc versions) spans → AllByRecursion (λ (span : Span). 1 ≤ span.from) spans → AllByRecursion (λ (span : Span). Fits tables place span.id span.row) spans
      → AreInPlace table.cols versions [] (sorted_by span_cmp spans)
  all_in_place apart whole below first fits =
      in_place table.cols versions [] (sorted_by span_cmp spans) (each_all _ (λ x. refl) (sorted_by span_cmp spans))
      (sorted_after spans apart whole)
      (sorted_each span_cmp (IsRight table.cols versions) spans right)
    where
      same : (other : Table) → slice_get tables place ≡ Some other → other ≡ table
      same other e = let f : Some other ≡ Some table = sym e ∙ there in cc

      bounds : AllByRecursion (λ (span : Span). IsBelow (suc versions) span × IsEndAbove span.from span.to) spans
      bounds = each_both _ (IsBelow (suc versions)) (λ (span : Span). IsEndAbove span.from span.to) (λ span b w. (b, w)) spans below whole

      facts : AllByRecursion (λ (span : Span). (1 ≤ span.from) × Fits tables place span.id span.row) spans
      facts = each_both _ (λ (span : Span). 1 ≤ span.from) (λ (span : Span). Fits tables place span.id span.row) (λ span l f. (l, f)) spans first fits

      right : AllByRecursion (IsRight table.cols versions) spans
      right = each_both _ (λ (span : Span). IsBelow (suc versions) span × IsEndAbove span.from span.to) (λ (span : Span). (1 ≤ span.from) × Fits tables place span.id span.row)
          (λ span b f. record {
            identity = f.1.readable;
            cells = subst (λ (t : Table). fits_columns t.cols span.row ≡ true) (same f.1.table f.1.there) f.1.fits;
            first = f.0;
            below = b.0;
            whole = b.1;
          }) spans bounds facts
