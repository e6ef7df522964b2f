-- The places that an index finds, with those that a transaction wrote, are enough for a statement.
use Rattle.std.proofs.Common.{◌≡◌, ℕ, zero, suc, ◌<◌, ◌==◌, Bool, true, false, ◌&&◌, ◌||◌, List, [], ◌∷◌, map, Some, slice_get, if◌then◌else◌, refl, sym, ap, ◌∙◌, subst, arith}
use Rattle.std.specs.List.{AllByRecursion}
use Rattle.std.proofs.Math.Dec.{eqb-suc-suc}
use Rattle.std.proofs.lemmas.Bool.{or_parts}
use Rattle.gp_base.specs.declared.cell.Cell.{Cell}
use Rattle.gp_expr.specs.Expressions.{Cond}
use Rattle.gp_expr.specs.Values.{passes}
use Rattle.gp_versions.specs.declared.span.Span.{Span}
use Rattle.gp_versions.specs.Places.{are_equal, cell_at, holds_with, places_at, places_where, places_with}
use Rattle.gp_versions.specs.Spans.{holds_at}
use Rattle.gp_txn.specs.declared.overlay.Placed.{Placed}
use Rattle.gp_txn.specs.declared.overlay.Slot.{Slot}
use Rattle.gp_txn.specs.declared.overlay.Slot.TheVariants.{Same, Put, Dropped}
use Rattle.gp_txn.specs.Ascending.{IsAscending, place_of}
use Rattle.gp_txn.specs.Enough.{IsEnough, is_among, passes_in}
use Rattle.gp_txn.specs.Equating.{Equates, found_slots, puts_cell}
use Rattle.gp_txn.specs.Merging.{merged}
use Rattle.gp_txn.specs.Overlay.{slot_at}
use Rattle.gp_txn.proofs.MergingLemmas.{merged-ascending, none-merged}

-- ---- places of spans

all-higher : (place : ℕ) (places : List ℕ) → AllByRecursion (λ other. place < other) places → AllByRecursion (λ other. suc place < other) (map suc places)
all-higher place [] all = tt
all-higher place (other ∷ places) all = (omega (arith, all.0), all-higher place places all.1)

all-positive : (places : List ℕ) → AllByRecursion (λ other. 0 < other) (map suc places)
all-positive [] = tt
all-positive (other ∷ places) = (omega arith, all-positive places)

ascending-higher : (places : List ℕ) → IsAscending places → IsAscending (map suc places)
ascending-higher [] up = tt
ascending-higher (place ∷ places) up = (all-higher place places up.0, ascending-higher places up.1)

ascending_if : (b : Bool) (places : List ℕ) → IsAscending places → IsAscending (if b then 0 ∷ map suc places else map suc places)
ascending_if true places up = (all-positive places, ascending-higher places up)
ascending_if false places up = ascending-higher places up

pub where-ascending : (p : Span → Bool) (spans : List Span) → IsAscending (places_where p spans)
where-ascending p [] = tt
where-ascending p (span ∷ spans) = ascending_if (p span) (places_where p spans) (where-ascending p spans)

among-higher : (places : List ℕ) (place : ℕ) → is_among (map suc places) (suc place) ≡ is_among places place
among-higher [] place = refl
among-higher (other ∷ places) place =
    ap (λ (b : Bool). b || is_among (map suc places) (suc place)) (eqb-suc-suc other place) ∙ ap (λ (b : Bool). (other == place) || b) (among-higher places place)

first_fails : (b : Bool) (places : List ℕ) → is_among (if b then 0 ∷ map suc places else map suc places) 0 ≡ false → b ≡ false
first_fails true places none = absurd (cc)
first_fails false places none = refl

none_behind : (b : Bool) (places : List ℕ) (place : ℕ) → is_among (if b then 0 ∷ map suc places else map suc places) (suc place) ≡ false → is_among places place ≡ false
none_behind true places place none = sym (among-higher places place) ∙ (or_parts (0 == suc place) (is_among (map suc places) (suc place)) none).1
none_behind false places place none = sym (among-higher places place) ∙ none

-- a span at another place does not pass
pub where-fails : (p : Span → Bool) (spans : List Span) (place : ℕ) (span : Span) → slice_get spans place ≡ Some span → is_among (places_where p spans) place ≡ false → p span ≡ false
where-fails p [] place span at none = absurd (cc)
where-fails p (first ∷ spans) zero span at none =
    let same : first ≡ span = cc in ap p (sym same) ∙ first_fails (p first) (places_where p spans) none
where-fails p (first ∷ spans) (suc place) span at none = where-fails p spans place span at (none_behind (p first) (places_where p spans) place none)

-- ---- slots

module _ (n : ℕ) (x : Cell) (place : ℕ) where
  unfound-one : (first : Placed) (found others : List Placed) (b e : Bool) → puts_cell n x first.slot ≡ b → (first.place == place) ≡ e → is_among (map place_of (if b then first ∷ found else found)) place ≡ false
      → (is_among (map place_of found) place ≡ false → puts_cell n x (slot_at place others) ≡ false) → puts_cell n x (if e then first.slot else slot_at place others) ≡ false
  unfound-one first found others true true is-b is-e none rest = absurd (let no : true ≡ false = sym is-e ∙ (or_parts (first.place == place) (is_among (map place_of found) place) none).0 in cc)
  unfound-one first found others true false is-b is-e none rest = rest (or_parts (first.place == place) (is_among (map place_of found) place) none).1
  unfound-one first found others false true is-b is-e none rest = is-b
  unfound-one first found others false false is-b is-e none rest = rest none

  -- no equal cell was put into a row at another place
  slot-unfound : (placed : List Placed) → is_among (map place_of (found_slots n x placed)) place ≡ false → puts_cell n x (slot_at place placed) ≡ false
  slot-unfound [] none = refl
  slot-unfound (first ∷ others) none = unfound-one first (found_slots n x others) others (puts_cell n x first.slot) (first.place == place) refl refl none (slot-unfound others)

all-found : (n : ℕ) (x : Cell) (place : ℕ) (placed : List Placed) → AllByRecursion (λ other. place < other) (map place_of placed) → AllByRecursion (λ other. place < other) (map place_of (found_slots n x placed))
all-found n x place [] all = tt
all-found n x place (first ∷ others) all =
    let rest = all-found n x place others all.1 in
    elim (puts_cell n x first.slot) as (λ b. AllByRecursion (λ other. place < other) (map place_of (if b then first ∷ found_slots n x others else found_slots n x others))) [ true ↦ (all.0, rest) | false ↦ rest ]

found-ascending : (n : ℕ) (x : Cell) (placed : List Placed) → IsAscending (map place_of placed) → IsAscending (map place_of (found_slots n x placed))
found-ascending n x [] up = tt
found-ascending n x (first ∷ others) up =
    let rest = found-ascending n x others up.1 in
    elim (puts_cell n x first.slot) as (λ b. IsAscending (map place_of (if b then first ∷ found_slots n x others else found_slots n x others))) [ true ↦ (all-found n x first.place others up.0, rest) | false ↦ rest ]

-- ---- places that are enough

-- all places of the version
pub enough-all : (test : List Cell → Bool) (placed : List Placed) (v : ℕ) (spans : List Span) (places : List ℕ) → places ≡ places_at v spans → IsEnough test placed v spans places
enough-all test placed v spans places is =
    let all : IsEnough test placed v spans (places_at v spans) = record {
      ascending = where-ascending (holds_at v) spans;
      others = λ place span at holds none. absurd (let fails = where-fails (holds_at v) spans place span at none in cc);
    } in
    let P : List ℕ → Type 0 = IsEnough test placed v spans in
    subst P (sym is) all

test_fails : (a b c : Bool) → a ≡ true → (a && b) ≡ false → (c ≡ true → b ≡ true) → c ≡ false
test_fails true true c is fails from = absurd (cc)
test_fails true false true is fails from = absurd (let no : false ≡ true = from refl in cc)
test_fails true false false is fails from = refl
test_fails false b c is fails from = absurd (cc)

-- what is not equal does not pass
unequal-fails : (n : ℕ) (x : Cell) (cond : Cond) (row : List Cell) (b : Bool) → Equates n x cond → passes cond row ≡ b → are_equal (cell_at n row) x ≡ false → passes cond row ≡ false
unequal-fails n x cond row true equates is none = absurd (let no : true ≡ false = sym (equates.equal row is) ∙ none in cc)
unequal-fails n x cond row false equates is none = is

slot-fails : (n : ℕ) (x : Cell) (cond : Cond) (slot : Slot) (row : List Cell) → Equates n x cond → puts_cell n x slot ≡ false → passes cond row ≡ false → passes_in (passes cond) slot row ≡ false
slot-fails n x cond Same row equates none fails = fails
slot-fails n x cond (Put now) row equates none fails = unequal-fails n x cond now (passes cond now) equates refl none
slot-fails n x cond Dropped row equates none fails = refl

-- those of an index, and those of the rows into which an equal cell was put
pub enough-found : (cond : Cond) (n : ℕ) (x : Cell) (placed : List Placed) (v : ℕ) (spans : List Span) (found places : List ℕ) → Equates n x cond → IsAscending (map place_of placed)
    → found ≡ places_with v n x spans → places ≡ merged (map place_of (found_slots n x placed)) found → IsEnough (passes cond) placed v spans places
enough-found cond n x placed v spans found places equates up is-found is =
    let written = map place_of (found_slots n x placed) in
    let with = places_with v n x spans in
    let all : IsEnough (passes cond) placed v spans (merged written with) = record {
      ascending = merged-ascending written with (found-ascending n x placed up) (where-ascending (holds_with v n x) spans);
      others = λ place span at holds none.
          let apart = none-merged written with place none in
          slot-fails n x cond (slot_at place placed) span.row equates (slot-unfound n x place placed apart.0)
          (test_fails (holds_at v span) (are_equal (cell_at n span.row) x) (passes cond span.row) holds (where-fails (holds_with v n x) spans place span at apart.1) (equates.equal span.row));
    } in
    let P : List ℕ → Type 0 = IsEnough (passes cond) placed v spans in
    subst P (sym (is ∙ ap (merged written) is-found)) all
