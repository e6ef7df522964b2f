-- The listed spans of a table: what is entered, what a commit leaves of them, and the spans of a version.
use Rattle.std.proofs.Common.{◌≡◌, ℕ, zero, suc, ◌+◌, ◌<◌, ◌≤◌, Bool, true, false, cond, ◌&&◌, leb, ltb, List, [], ◌∷◌, ◌++◌, drop, length, map, take, slice_get, Option, Some, None, IfSome, refl, ap, sym, ◌∙◌, arith}
use Rattle.std.specs.Option.{option_map}
use Rattle.std.specs.List.{AllByRecursion, cons_option, filter, filter_map, range_with_len}
use Rattle.std.proofs.lemmas.Bool.{false≢true, le-ltb}
use Rattle.std.proofs.lemmas.Bool.Decides.{nat_tests}
use Rattle.std.proofs.lemmas.List.{length-append, length-map, take-append-drop, append-nil}
use Rattle.std.proofs.lemmas.List.Elements.{filter-append}
use Rattle.std.proofs.lemmas.Option.{slice_get_within}
use Rattle.gp_versions.specs.declared.span.Span.{Span}
use Rattle.gp_versions.specs.declared.span.Write.{Write}
use Rattle.gp_versions.specs.Commits.{after_commit, begun, ended, is_open, is_written}
use Rattle.gp_versions.specs.Listed.{IsListed, end_or, greater, held, is_some_open, later_of, listed, newest_end, open_places}
use Rattle.gp_versions.specs.Search.{among, is_where}
use Rattle.gp_versions.specs.Spans.{holds_at, is_before_end, spans_at}
use Rattle.gp_versions.proofs.PlaceLemmas.{all-range, among-append, among-narrower, listed-among, listed-first, places-first, range-more}
use Rattle.gp_versions.proofs.SpanLemmas.{ended_from, ended_to}

-- ---- the spans of a version

pub at-append : (v : ℕ) (xs ys : List Span) → spans_at v (xs ++ ys) ≡ spans_at v xs ++ spans_at v ys
at-append v xs ys = filter-append (holds_at v) xs ys

pub at-few : (v : ℕ) (spans : List Span) → length (spans_at v spans) ≤ length spans
at-few v [] = omega arith
at-few v (span ∷ spans) =
    let rest = at-few v spans in
    elim (holds_at v span) as (λ b. length (cond b (span ∷ spans_at v spans) (spans_at v spans)) ≤ length (span ∷ spans)) [ true ↦ omega (arith, rest) | false ↦ omega (arith, rest) ]

pub as_of-listed : (places : List ℕ) (covered floor v : ℕ) (spans : List Span) → IsListed places covered floor spans → floor ≤ v
    → spans_at v (listed spans places) ++ spans_at v (drop covered spans) ≡ spans_at v spans
as_of-listed places covered floor v spans is from =
    let first : spans_at v (listed spans places) ≡ spans_at v (take covered spans) =
    listed-among (holds_at v) spans places
    ∙ ap (listed spans) (sym (is.same v from) ∙ sym (places-first (holds_at v) covered spans))
    ∙ listed-first (holds_at v) covered spans in
    ap (λ ss. ss ++ spans_at v (drop covered spans)) first
    ∙ sym (at-append v (take covered spans) (drop covered spans))
    ∙ ap (spans_at v) (take-append-drop covered spans)

-- a walk over listed spans
pub at-listed : (v place : ℕ) (spans : List Span) (places : List ℕ) → spans_at v (listed spans (place ∷ places)) ≡ cons_option (held v (slice_get spans place)) (spans_at v (listed spans places))
at-listed v place spans places = elim (slice_get spans place) as (λ o. spans_at v (cons_option o (listed spans places)) ≡ cons_option (held v o) (spans_at v (listed spans places))) [
  | None ↦ refl
  | Some span ↦ elim (holds_at v span) as (λ b. cond b (span ∷ spans_at v (listed spans places)) (spans_at v (listed spans places)) ≡ cons_option (cond b (Some span) None) (spans_at v (listed spans places))) [ true ↦ refl | false ↦ refl ]
]

-- ---- a commit

passed-still : (v version : ℕ) (b : Bool) (from : ℕ) (to : Option ℕ) → (leb from v && is_before_end v to) ≡ false → (leb from v && is_before_end v (cond (is_open to && b) (Some version) to)) ≡ false
passed-still v version b from None passed = elim (leb from v) as (λ c. (c && true) ≡ false → (c && is_before_end v (cond (true && b) (Some version) None)) ≡ false) [ true ↦ λ e. absurd (false≢true (sym e)) | false ↦ λ e. refl ] passed
passed-still v version b from (Some to) passed = passed

ended-passed : (v version : ℕ) (writes : List Write) (span : Span) → holds_at v span ≡ false → holds_at v (ended version writes span) ≡ false
ended-passed v version writes span passed =
    rw (ended_from version writes span, ended_to version writes span) (passed-still v version (is_written writes span.id) span.from span.to passed)

get-mapped : (f : Span → Span) (spans more : List Span) (p : ℕ) → p < length spans → slice_get (map f spans ++ more) p ≡ option_map f (slice_get spans p)
get-mapped f [] more p low = absurd (omega arith)
get-mapped f (span ∷ spans) more zero low = refl
get-mapped f (span ∷ spans) more (suc p) low = get-mapped f spans more p (omega arith)

where-ended : (v version : ℕ) (writes : List Write) (o : Option Span) → is_where (holds_at v) o ≡ false → is_where (holds_at v) (option_map (ended version writes) o) ≡ false
where-ended v version writes None passed = refl
where-ended v version writes (Some span) passed = ended-passed v version writes span passed

-- what does not hold a version does not hold it after a commit
all-passed : (v version : ℕ) (writes : List Write) (spans more : List Span) (places : List ℕ) → AllByRecursion (λ place. place < length spans) places
    → AllByRecursion (λ place. is_where (holds_at v) (slice_get spans place) ≡ false → is_where (holds_at v) (slice_get (map (ended version writes) spans ++ more) place) ≡ false) places
all-passed v version writes spans more [] low = tt
all-passed v version writes spans more (place ∷ places) low = (
  λ passed. ap (is_where (holds_at v)) (get-mapped (ended version writes) spans more place low.0) ∙ where-ended v version writes (slice_get spans place) passed,
  all-passed v version writes spans more places low.1,
)

all-lower : (low high : ℕ) (places : List ℕ) → low ≤ high → AllByRecursion (λ place. place < low) places → AllByRecursion (λ place. place < high) places
all-lower low high [] le all = tt
all-lower low high (place ∷ places) le all = (omega (arith, all.0), all-lower low high places le all.1)

pub IsListed-after : (places : List ℕ) (covered floor version : ℕ) (writes : List Write) (spans : List Span) → IsListed places covered floor spans → IsListed places covered floor (after_commit version writes spans)
IsListed-after places covered floor version writes spans is =
    let end = ended version writes in
    let more = filter_map (begun version) writes in
    let same-length : length (map end spans) ≡ length spans = length-map spans end in
    let narrower = λ (v : ℕ) (some : List ℕ) (low : AllByRecursion (λ place. place < length spans) some). among-narrower (holds_at v) (holds_at v) spans (map end spans ++ more) some (all-passed v version writes spans more some low) in
    record {
      within = omega (arith, is.within, length-append (map end spans) more, same-length);
      low = is.low;
      same = λ v from.
          sym (narrower v (range_with_len 0 covered) (all-range (length spans) 0 covered (omega (arith, is.within))))
          ∙ ap (among (holds_at v) (map end spans ++ more)) (is.same v from)
          ∙ narrower v places (all-lower covered (length spans) places is.within is.low);
    }

-- ---- one span more

all-higher : (covered : ℕ) (places : List ℕ) → AllByRecursion (λ place. place < covered) places → AllByRecursion (λ place. place < covered + 1) places
all-higher covered [] low = tt
all-higher covered (place ∷ places) low = (omega (arith, low.0), all-higher covered places low.1)

all-more : (covered : ℕ) (places : List ℕ) → AllByRecursion (λ place. place < covered) places → AllByRecursion (λ place. place < covered + 1) (places ++ covered ∷ [])
all-more covered [] low = (omega arith, tt)
all-more covered (place ∷ places) low = (omega (arith, low.0), all-more covered places low.1)

pub IsListed-open : (places new : List ℕ) (place covered next floor : ℕ) (spans : List Span) (span : Span) → place ≡ covered → next ≡ covered + 1 → new ≡ places ++ place ∷ [] → slice_get spans covered ≡ Some span
    → IsListed places covered floor spans → IsListed new next floor spans
IsListed-open places new place covered next floor spans span is-place is-next is-new at is =
    rw (is-new, is-next, is-place)
    record {
      within = omega (arith, slice_get_within spans covered span at);
      low = all-more covered places is.low;
      same = λ v from.
          ap (among (holds_at v) spans) (range-more covered)
          ∙ among-append (holds_at v) spans (range_with_len 0 covered) (covered ∷ [])
          ∙ ap (λ some. some ++ among (holds_at v) spans (covered ∷ [])) (is.same v from)
          ∙ sym (among-append (holds_at v) spans places (covered ∷ []));
    }

greater-left : (version other : ℕ) → version ≤ greater version other
greater-left version other = grind (arith, nat_tests)

greater-right : (version other : ℕ) → other ≤ greater version other
greater-right version other = grind (arith, nat_tests)

-- a span that has ended does not hold its end
ended-out : (v to from : ℕ) → to ≤ v → (leb from v && ltb v to) ≡ false
ended-out v to from late = rw (le-ltb v to late) (elim (leb from v) as (λ b. (b && false) ≡ false) [ true ↦ refl | false ↦ refl ])

out : (v to place : ℕ) (spans : List Span) (span : Span) → slice_get spans place ≡ Some span → span.to ≡ Some to → to ≤ v → among (holds_at v) spans (place ∷ []) ≡ []
out v to place spans span at is late =
    ap (λ o. cond (is_where (holds_at v) o) (place ∷ []) []) at
    ∙ ap (λ b. cond b (place ∷ []) []) (ap (λ e. leb span.from v && is_before_end v e) is ∙ ended-out v to span.from late)

pub IsListed-ended : (places : List ℕ) (covered next floor above to : ℕ) (spans : List Span) (span : Span) → next ≡ covered + 1 → above ≡ greater floor to → span.to ≡ Some to → slice_get spans covered ≡ Some span
    → IsListed places covered floor spans → IsListed places next above spans
IsListed-ended places covered next floor above to spans span is-next is-above ends at is =
    rw (is-next, is-above)
    record {
      within = omega (arith, slice_get_within spans covered span at);
      low = all-higher covered places is.low;
      same = λ v from.
          ap (among (holds_at v) spans) (range-more covered)
          ∙ among-append (holds_at v) spans (range_with_len 0 covered) (covered ∷ [])
          ∙ ap (λ some. among (holds_at v) spans (range_with_len 0 covered) ++ some) (out v to covered spans span at ends (omega (arith, from, greater-right floor to)))
          ∙ append-nil (among (holds_at v) spans (range_with_len 0 covered))
          ∙ is.same v (omega (arith, from, greater-left floor to));
    }

-- ---- ended spans are dropped

abbrev IsEnded : ℕ → Option Span → Type 0
IsEnded floor None = Unit {0}
IsEnded floor (Some span) = IfSome span.to (λ to. to ≤ floor)

later-above : (floor : ℕ) (to : Option ℕ) → floor ≤ later_of floor to
later-above floor None = omega arith
later-above floor (Some to) = greater-left floor to

end-above : (floor : ℕ) (span : Option Span) → floor ≤ end_or floor span
end-above floor None = omega arith
end-above floor (Some span) = later-above floor span.to

newest-above : (floor : ℕ) (spans : List Span) (places : List ℕ) → floor ≤ newest_end floor spans places
newest-above floor spans [] = omega arith
newest-above floor spans (place ∷ places) =
    omega (arith, end-above floor (slice_get spans place), newest-above (end_or floor (slice_get spans place)) spans places)

later-ends : (low floor : ℕ) (to : Option ℕ) → later_of low to ≤ floor → IfSome to (λ end. end ≤ floor)
later-ends low floor None above = tt
later-ends low floor (Some to) above = omega (arith, above, greater-right low to)

end-ends : (low floor : ℕ) (span : Option Span) → end_or low span ≤ floor → IsEnded floor span
end-ends low floor None above = tt
end-ends low floor (Some span) above = later-ends low floor span.to above

out-of : (v floor : ℕ) (to : Option ℕ) (from : ℕ) → IfSome to (λ end. end ≤ floor) → floor ≤ v → is_open to ≡ false → (leb from v && is_before_end v to) ≡ false
out-of v floor None from ended above closed = absurd (false≢true (sym closed))
out-of v floor (Some to) from ended above closed = ended-out v to from (omega (arith, ended, above))

dropped : (v floor : ℕ) (o : Option Span) → IsEnded floor o → floor ≤ v → is_where (λ (span : Span). is_open span.to) o ≡ false → is_where (holds_at v) o ≡ false
dropped v floor None ended above closed = refl
dropped v floor (Some span) ended above closed = out-of v floor span.to span.from ended above closed

open-where : (o : Option Span) → is_where (λ (span : Span). is_open span.to) o ≡ is_some_open o
open-where None = refl
open-where (Some span) = refl

-- they hold no version from the newest end on
all-dropped : (v floor : ℕ) (spans : List Span) (places : List ℕ) → newest_end floor spans places ≤ v
    → AllByRecursion (λ place. is_where (λ (span : Span). is_open span.to) (slice_get spans place) ≡ false → is_where (holds_at v) (slice_get spans place) ≡ false) places
all-dropped v floor spans [] above = tt
all-dropped v floor spans (place ∷ places) above =
    let o = slice_get spans place in (
      dropped v (end_or floor o) o (end-ends floor (end_or floor o) o (omega arith)) (omega (arith, newest-above (end_or floor o) spans places, above)),
      all-dropped v (end_or floor o) spans places above,
    )

open-among : (spans : List Span) (places : List ℕ) → among (λ (span : Span). is_open span.to) spans places ≡ open_places spans places
open-among spans [] = refl
open-among spans (place ∷ places) =
    ap (λ b. cond b (place ∷ among (λ (span : Span). is_open span.to) spans places) (among (λ (span : Span). is_open span.to) spans places)) (open-where (slice_get spans place))
    ∙ ap (λ some. cond (is_some_open (slice_get spans place)) (place ∷ some) some) (open-among spans places)

open-listed : (v floor : ℕ) (spans : List Span) (places : List ℕ) → newest_end floor spans places ≤ v → among (holds_at v) spans places ≡ among (holds_at v) spans (open_places spans places)
open-listed v floor spans places above =
    sym (among-narrower (λ (span : Span). is_open span.to) (holds_at v) spans spans places (all-dropped v floor spans places above))
    ∙ ap (among (holds_at v) spans) (open-among spans places)

all-open : (P : ℕ → Type 0) (p : ℕ → Bool) (places : List ℕ) → AllByRecursion P places → AllByRecursion P (filter p places)
all-open P p [] all = tt
all-open P p (place ∷ places) all = elim (p place) as (λ b. AllByRecursion P (cond b (place ∷ filter p places) (filter p places))) [ true ↦ (all.0, all-open P p places all.1) | false ↦ all-open P p places all.1 ]

pub IsListed-dropped : (places kept : List ℕ) (covered floor above : ℕ) (spans : List Span) → kept ≡ open_places spans places → above ≡ newest_end floor spans places
    → IsListed places covered floor spans → IsListed kept covered above spans
IsListed-dropped places kept covered floor above spans is-kept is-above is =
    rw (is-kept, is-above)
    record {
      within = is.within;
      low = all-open (λ place. place < covered) (λ place. is_some_open (slice_get spans place)) places is.low;
      same = λ v from. is.same v (omega (arith, from, newest-above floor spans places)) ∙ open-listed v floor spans places from;
    }
