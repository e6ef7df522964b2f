-- Row versions that are equal one by one are equal in the order of a dump.
use Rattle.std.proofs.Common.{◌≡◌, ◌≤◌, ◌<◌, ℕ, suc, ◌+◌, Bool, true, false, ◌&&◌, List, [], ◌∷◌, length, map, drop, get_or, Option, Some, None, refl, sym, ap, ◌∙◌, arith}
use Rattle.std.specs.Prelude.{◌==◌, slice_get}
use Rattle.std.specs.List.{range_with_len}
use Rattle.std.specs.List.Sorted.{IsPermutation, IsSortedByKey}
use Rattle.std.specs.Option.{option_cmp}
use Rattle.std.specs.Ordering.{is_eq}
use Rattle.std.proofs.lemmas.Bool.{eqb-true, false≢true}
use Rattle.std.proofs.lemmas.List.{drop_all, drop_more}
use Rattle.gp_base.specs.IdentityOrder.{identity_cmp-exact}
use Rattle.gp_base.specs.Identities.{identity_cmp}
use Rattle.gp_base.specs.Order.{row_cmp, sorted_by}
use Rattle.gp_base.specs.RowOrder.{exact_rows}
use Rattle.gp_base.proofs.OrderLemmas.{equal_from_is_eq}
use Rattle.gp_versions.specs.declared.span.Span.{Span}
use Rattle.gp_versions.specs.Spans.{Versions, span_cmp}
use Rattle.gp_versions.specs.TableSpans.{AreWhole, NoOverlap}
use Rattle.gp_dump.specs.Writing.{ordered}
use Rattle.gp_dump.proofs.SortLemmas.{somes, spans-in-order}
use Rattle.gp_replay.specs.SameRows.{in_order, same_end, same_found, same_span}

-- ---- a span

left-true : (a b : Bool) → (a && b) ≡ true → a ≡ true
left-true true b e = refl
left-true false b e = absurd (false≢true e)

right-true : (a b : Bool) → (a && b) ≡ true → b ≡ true
right-true true b e = e
right-true false b e = absurd (false≢true e)

end-same : (to other : Option ℕ) → same_end to other ≡ true → to ≡ other
end-same None None e = refl
end-same None (Some version) e = absurd (false≢true e)
end-same (Some version) None e = absurd (false≢true e)
end-same (Some version) (Some another) e = ap (λ (v : ℕ). Some v) (eqb-true version another e)

span-same : (span other : Span) → same_span span other ≡ true → span ≡ other
span-same span other e =
    let ends : Bool = same_end span.to other.to in
    let ids : Bool = is_eq (identity_cmp span.id other.id) in
    let rows : Bool = is_eq (row_cmp span.row other.row) in
    let behind : (ends && (ids && rows)) ≡ true = right-true (span.from == other.from) (ends && (ids && rows)) e in
    let last : (ids && rows) ≡ true = right-true ends (ids && rows) behind in
    let from : span.from ≡ other.from = eqb-true span.from other.from (left-true (span.from == other.from) (ends && (ids && rows)) e) in
    let to : span.to ≡ other.to = end-same span.to other.to (left-true ends (ids && rows) behind) in
    let id : span.id ≡ other.id = identity_cmp-exact span.id other.id (equal_from_is_eq (identity_cmp span.id other.id) (left-true ids rows last)) in
    let row : span.row ≡ other.row = exact_rows span.row other.row (equal_from_is_eq (row_cmp span.row other.row) (right-true ids rows last)) in
    λ i. record { id = id i; from = from i; to = to i; row = row i }

pub found-same : (span other : Option Span) → same_found span other ≡ true → span ≡ other
found-same None None e = absurd (false≢true e)
found-same None (Some other) e = absurd (false≢true e)
found-same (Some span) None e = absurd (false≢true e)
found-same (Some span) (Some other) e = ap (λ (s : Span). Some s) (span-same span other e)

-- ---- lists, element by element

-- where what is left of two lists gives equal elements, all of both gives them
abbrev pub GoesOn : {X Y Z : Type 0} → (X → Z) → (Y → Z) → List X → List Y → ℕ → Type 0
GoesOn f g xs ys at = map f (drop at xs) ≡ map g (drop at ys) → map f xs ≡ map g ys

pub next-same : {X Y Z : Type 0} (f : X → Z) (g : Y → Z) (xs : List X) (ys : List Y) (at : ℕ) (x : X) (y : Y) → at < length xs → at < length ys → f (get_or xs at x) ≡ g (get_or ys at y)
    → map f (drop (suc at) xs) ≡ map g (drop (suc at) ys) → map f (drop at xs) ≡ map g (drop at ys)
next-same f g xs ys at x y within there same rest =
    let next : at + 1 ≡ suc at = omega arith in
    ap (map f) (drop_more xs at x within)
    ∙ (λ i. f (get_or xs at x) ∷ map f (drop (next i) xs))
    ∙ (λ i. same i ∷ rest i)
    ∙ (λ i. g (get_or ys at y) ∷ map g (drop (sym next i) ys))
    ∙ ap (map g) (sym (drop_more ys at y there))

pub goes-on : {X Y Z : Type 0} (f : X → Z) (g : Y → Z) (xs : List X) (ys : List Y) (at : ℕ) → (map f (drop (suc at) xs) ≡ map g (drop (suc at) ys) → map f (drop at xs) ≡ map g (drop at ys))
    → GoesOn f g xs ys at → GoesOn f g xs ys (at + 1)
goes-on f g xs ys at step before rest =
    let next : suc at ≡ at + 1 = omega arith in
    before (step (ap (λ (n : ℕ). map f (drop n xs)) next ∙ rest ∙ ap (λ (n : ℕ). map g (drop n ys)) (sym next)))

pub all-same : {X Y Z : Type 0} (f : X → Z) (g : Y → Z) (xs : List X) (ys : List Y) (at : ℕ) → length xs ≤ at → length ys ≤ at → GoesOn f g xs ys at → map f xs ≡ map g ys
all-same f g xs ys at past behind before = before (ap (map f) (drop_all at xs past) ∙ ap (map g) (sym (drop_all at ys behind)))

-- ---- a table

no-item : (item : Option Span) (items : List (Option Span)) → [] ≡ item ∷ items → ⊥
no-item item items e = cc

item-no : (item : Option Span) (items : List (Option Span)) → item ∷ items ≡ [] → ⊥
item-no item items e = cc

first-item : (span other : Span) (items others : List (Option Span)) → Some span ∷ items ≡ Some other ∷ others → span ≡ other
first-item span other items others e = cc

other-items : (item other : Option Span) (items others : List (Option Span)) → item ∷ items ≡ other ∷ others → items ≡ others
other-items item other items others e = cc

same-somes : (spans others : List Span) → somes spans ≡ somes others → spans ≡ others
same-somes [] [] e = refl
same-somes [] (other ∷ others) e = absurd (no-item (Some other) (somes others) e)
same-somes (span ∷ spans) [] e = absurd (item-no (Some span) (somes spans) e)
same-somes (span ∷ spans) (other ∷ others) e =
    λ i. first-item span other (somes spans) (somes others) e i ∷ same-somes spans others (other-items (Some span) (Some other) (somes spans) (somes others) e) i

pub same-order : (spans others : List Span) (places other_places : List ℕ) → NoOverlap spans → AreWhole spans → NoOverlap others → AreWhole others
    → IsPermutation (range_with_len 0 (length spans)) places → IsSortedByKey (slice_get spans) (option_cmp span_cmp) places
    → IsPermutation (range_with_len 0 (length others)) other_places → IsSortedByKey (slice_get others) (option_cmp span_cmp) other_places
    → map (slice_get spans) places ≡ map (slice_get others) other_places → sorted_by span_cmp spans ≡ sorted_by span_cmp others
same-order spans others places other_places apart are-whole others-apart others-whole moved sorted other-moved other-sorted same =
    same-somes (sorted_by span_cmp spans) (sorted_by span_cmp others) (
    sym (spans-in-order spans places apart are-whole moved sorted)
    ∙ same
    ∙ spans-in-order others other_places others-apart others-whole other-moved other-sorted)

-- ---- all tables

each-in-order : (tables : List Versions) → ordered tables ≡ map in_order tables
each-in-order [] = refl
each-in-order (table ∷ tables) = ap (λ (rest : List (List Span)). in_order table ∷ rest) (each-in-order tables)

pub same-ordered : (tables others : List Versions) → map in_order tables ≡ map in_order others → ordered tables ≡ ordered others
same-ordered tables others same = each-in-order tables ∙ same ∙ sym (each-in-order others)
