-- The places of spans of which something is true.
use Rattle.std.proofs.Common.{◌≡◌, ℕ, zero, suc, ◌+◌, ◌-◌, ◌<◌, ◌≤◌, Bool, true, false, cond, List, [], ◌∷◌, ◌++◌, length, map, reverse, take, slice_get, Some, None, refl, ap, sym, ◌∙◌, arith}
use Rattle.std.specs.List.{AllByRecursion, cons_option, filter, range_with_len}
use Rattle.std.specs.Cmp.Lexicographic.{slice_cmp}
use Rattle.std.specs.Ordering.{int_cmp, nat_cmp}
use Rattle.std.proofs.lemmas.Bool.{and_parts, false_from_ne_true}
use Rattle.std.proofs.lemmas.List.{append_assoc, append-nil, reverse-append, take_all}
use Rattle.std.proofs.lemmas.List.Elements.{filter-append}
use Rattle.std.proofs.lemmas.Map.Lookups.{exact_bytes, exact_signed}
use Rattle.gp_base.specs.declared.cell.Cell.{Cell}
use Rattle.gp_base.specs.declared.cell.Cell.TheVariants as cell
use Rattle.gp_base.proofs.OrderLemmas.{equal_from_is_eq}
use Rattle.gp_versions.specs.declared.key.By.TheVariants as variant
use Rattle.gp_versions.specs.declared.span.Span.{Span}
use Rattle.gp_versions.specs.Keys.{key_by, key_of_cell, keys_by}
use Rattle.gp_versions.specs.Listed.{listed}
use Rattle.gp_versions.specs.Places.{are_equal, cell_at, holds_with, places_where}
use Rattle.gp_versions.specs.Search.{among, is_where}
use Rattle.gp_versions.specs.Spans.{holds_at}

-- ---- ranges

range-shift : (a n : ℕ) → range_with_len (a + 1) n ≡ map suc (range_with_len a n)
range-shift a zero = refl
range-shift a (suc n) = let e : a + 1 ≡ suc a = omega arith in ap (λ x. x ∷ range_with_len (a + 1 + 1) n) e ∙ ap (λ xs. suc a ∷ xs) (range-shift (a + 1) n)

pub range-parts : (a m n : ℕ) → range_with_len a (m + n) ≡ range_with_len a m ++ range_with_len (a + m) n
range-parts a zero n = let e : a + zero ≡ a = omega arith in let f : zero + n ≡ n = omega arith in rw (e, f) refl
range-parts a (suc m) n =
    let e : suc m + n ≡ suc (m + n) = omega arith in
    let f : a + 1 + m ≡ a + suc m = omega arith in
    ap (range_with_len a) e ∙ ap (λ xs. a ∷ xs) (range-parts (a + 1) m n) ∙ ap (λ k. a ∷ (range_with_len (a + 1) m ++ range_with_len k n)) f

pub range-more : (n : ℕ) → range_with_len 0 (n + 1) ≡ range_with_len 0 n ++ n ∷ []
range-more n = range-parts 0 n 1 ∙ (let e : 0 + n ≡ n = omega arith in ap (λ k. range_with_len 0 n ++ k ∷ []) e)

pub range-next : (a b : ℕ) → a ≤ b → range_with_len a (b + 1 - a) ≡ range_with_len a (b - a) ++ b ∷ []
range-next a b le =
    let e : b + 1 - a ≡ b - a + 1 = omega (arith, le) in
    let f : a + (b - a) ≡ b = omega (arith, le) in
    ap (range_with_len a) e ∙ range-parts a (b - a) 1 ∙ ap (λ k. range_with_len a (b - a) ++ k ∷ []) f

pub all-range : (n first count : ℕ) → first + count ≤ n → AllByRecursion (λ place. place < n) (range_with_len first count)
all-range n first zero low = tt
all-range n first (suc count) low = (omega (arith, low), all-range n (first + 1) count (omega (arith, low)))

-- ---- places

pub among-append : (p : Span → Bool) (spans : List Span) (xs ys : List ℕ) → among p spans (xs ++ ys) ≡ among p spans xs ++ among p spans ys
among-append p spans xs ys = filter-append (λ place. is_where p (slice_get spans place)) xs ys

among-shift : (p : Span → Bool) (span : Span) (spans : List Span) (places : List ℕ) → among p (span ∷ spans) (map suc places) ≡ map suc (among p spans places)
among-shift p span spans [] = refl
among-shift p span spans (place ∷ places) =
    let rest = among-shift p span spans places in
    elim (is_where p (slice_get spans place)) as (λ b. cond b (suc place ∷ among p (span ∷ spans) (map suc places)) (among p (span ∷ spans) (map suc places)) ≡ map suc (cond b (place ∷ among p spans places) (among p spans places))) [
      | true ↦ ap (λ xs. suc place ∷ xs) rest
      | false ↦ rest
    ]

-- the places among the first n
pub places-first : (p : Span → Bool) (n : ℕ) (spans : List Span) → places_where p (take n spans) ≡ among p spans (range_with_len 0 n)
places-first p zero [] = refl
places-first p zero (span ∷ spans) = refl
places-first p (suc n) [] = none (range_with_len 0 (suc n))
  where
    none : (places : List ℕ) → [] ≡ among p [] places
    none [] = refl
    none (place ∷ places) = none places
places-first p (suc n) (span ∷ spans) =
    let shifted : among p (span ∷ spans) (range_with_len 1 n) ≡ map suc (places_where p (take n spans)) =
    ap (among p (span ∷ spans)) (range-shift 0 n) ∙ among-shift p span spans (range_with_len 0 n) ∙ ap (map suc) (sym (places-first p n spans)) in
    ap (λ xs. cond (p span) (0 ∷ xs) xs) (sym shifted)

pub places-filter : (p : Span → Bool) (spans : List Span) → places_where p spans ≡ filter (λ place. is_where p (slice_get spans place)) (range_with_len 0 (length spans))
places-filter p spans = ap (places_where p) (sym (take_all (length spans) spans (omega arith))) ∙ places-first p (length spans) spans

-- ---- the spans at the places

listed-shift : (span : Span) (spans : List Span) (places : List ℕ) → listed (span ∷ spans) (map suc places) ≡ listed spans places
listed-shift span spans [] = refl
listed-shift span spans (place ∷ places) = ap (cons_option (slice_get spans place)) (listed-shift span spans places)

pub listed-first : (p : Span → Bool) (n : ℕ) (spans : List Span) → listed spans (places_where p (take n spans)) ≡ filter p (take n spans)
listed-first p zero [] = refl
listed-first p zero (span ∷ spans) = refl
listed-first p (suc n) [] = refl
listed-first p (suc n) (span ∷ spans) =
    let some = places_where p (take n spans) in
    let rest : listed (span ∷ spans) (map suc some) ≡ filter p (take n spans) = listed-shift span spans some ∙ listed-first p n spans in
    elim (p span) as (λ b. listed (span ∷ spans) (cond b (0 ∷ map suc some) (map suc some)) ≡ cond b (span ∷ filter p (take n spans)) (filter p (take n spans))) [
      | true ↦ ap (λ xs. span ∷ xs) rest
      | false ↦ rest
    ]

-- those of listed spans
pub listed-among : (p : Span → Bool) (spans : List Span) (places : List ℕ) → filter p (listed spans places) ≡ listed spans (among p spans places)
listed-among p spans [] = refl
listed-among p spans (place ∷ places) =
    let rest = listed-among p spans places in
    let some = among p spans places in
    elim (slice_get spans place) as (λ o. slice_get spans place ≡ o → filter p (cons_option o (listed spans places)) ≡ listed spans (cond (is_where p o) (place ∷ some) some)) [
      | None ↦ λ is. rest
      | Some span ↦ λ is. elim (p span) as (λ b. cond b (span ∷ filter p (listed spans places)) (filter p (listed spans places)) ≡ listed spans (cond b (place ∷ some) some)) [
        | true ↦ ap (λ xs. span ∷ xs) rest ∙ ap (λ o. cons_option o (listed spans some)) (sym is)
        | false ↦ rest
      ]
    ] refl

-- ---- a narrower test

pub among-narrower : (p q : Span → Bool) (old new : List Span) (places : List ℕ) → AllByRecursion (λ place. is_where p (slice_get old place) ≡ false → is_where q (slice_get new place) ≡ false) places
    → among q new (among p old places) ≡ among q new places
among-narrower p q old new [] narrower = refl
among-narrower p q old new (place ∷ places) narrower =
    let rest = among-narrower p q old new places narrower.1 in
    let some = among q new places in
    let few = among q new (among p old places) in
    elim (is_where p (slice_get old place)) as (λ b. is_where p (slice_get old place) ≡ b → among q new (cond b (place ∷ among p old places) (among p old places)) ≡ cond (is_where q (slice_get new place)) (place ∷ some) some) [
      | true ↦ λ is. ap (λ xs. cond (is_where q (slice_get new place)) (place ∷ xs) xs) rest
      | false ↦ λ is. rest ∙ sym (ap (λ b. cond b (place ∷ some) some) (narrower.0 is))
    ] refl

-- the places among some first spans, and those from there on
pub among-parts : (p : Span → Bool) (spans : List Span) (places : List ℕ) (from : ℕ) → from ≤ length spans → among p spans (range_with_len 0 from) ≡ among p spans places
    → among p spans places ++ among p spans (range_with_len from (length spans - from)) ≡ places_where p spans
among-parts p spans places from within same =
    ap (λ xs. xs ++ among p spans (range_with_len from (length spans - from))) (sym same)
    ∙ sym (among-append p spans (range_with_len 0 from) (range_with_len from (length spans - from)))
    ∙ (let e : from ≡ 0 + from = omega arith in ap (λ k. among p spans (range_with_len 0 from ++ range_with_len k (length spans - from))) e)
    ∙ ap (among p spans) (sym (range-parts 0 from (length spans - from)) ∙ (let e : from + (length spans - from) ≡ length spans = omega (arith, within) in ap (range_with_len 0) e))
    ∙ sym (places-filter p spans)

-- ---- a walk from the last place to the first

places-one : (p : Span → Bool) (place : ℕ) (spans : List Span) → places_where p (take (suc place) spans) ≡ places_where p (take place spans) ++ among p spans (place ∷ [])
places-one p place spans =
    let e : suc place ≡ place + 1 = omega arith in
    places-first p (suc place) spans
    ∙ ap (λ n. among p spans (range_with_len 0 n)) e
    ∙ ap (among p spans) (range-more place)
    ∙ among-append p spans (range_with_len 0 place) (place ∷ [])
    ∙ ap (λ some. some ++ among p spans (place ∷ [])) (sym (places-first p place spans))

among-none : (p : Span → Bool) (spans : List Span) (places : List ℕ) → AllByRecursion (λ place. is_where p (slice_get spans place) ≡ false) places → among p spans places ≡ []
among-none p spans [] none = refl
among-none p spans (place ∷ places) none = ap (λ b. cond b (place ∷ among p spans places) (among p spans places)) none.0 ∙ among-none p spans places none.1

all-in-range : (P : ℕ → Type 0) (first count : ℕ) → ((q : ℕ) → first ≤ q → q < first + count → P q) → AllByRecursion P (range_with_len first count)
all-in-range P first zero all = tt
all-in-range P first (suc count) all =
    (all first (omega arith) (omega arith), all-in-range P (first + 1) count (λ q above below. all q (omega (arith, above)) (omega (arith, below))))

places-skip : (p : Span → Bool) (spans : List Span) (low high : ℕ) → low ≤ high → ((q : ℕ) → low ≤ q → q < high → is_where p (slice_get spans q) ≡ false) → places_where p (take low spans) ≡ places_where p (take high spans)
places-skip p spans low high le others =
    let e : high ≡ low + (high - low) = omega (arith, le) in
    let first = among p spans (range_with_len 0 low) in
    let none : among p spans (range_with_len (0 + low) (high - low)) ≡ [] =
    among-none p spans (range_with_len (0 + low) (high - low))
    (all-in-range (λ place. is_where p (slice_get spans place) ≡ false) (0 + low) (high - low) (λ q above below. others q (omega (arith, above)) (omega (arith, below, le)))) in
    places-first p low spans
    ∙ sym (append-nil first)
    ∙ ap (λ some. first ++ some) (sym none)
    ∙ sym (among-append p spans (range_with_len 0 low) (range_with_len (0 + low) (high - low)))
    ∙ ap (among p spans) (sym (range-parts 0 low (high - low)))
    ∙ ap (λ n. among p spans (range_with_len 0 n)) (sym e)
    ∙ sym (places-first p high spans)

reverse-one : (p : Span → Bool) (spans : List Span) (place : ℕ) → reverse (among p spans (place ∷ [])) ≡ among p spans (place ∷ [])
reverse-one p spans place = elim (is_where p (slice_get spans place)) as (λ b. reverse (cond b (place ∷ []) []) ≡ cond b (place ∷ []) []) [ true ↦ refl | false ↦ refl ]

-- the walk goes on at `low`, behind a place
pub places-step : (p : Span → Bool) (spans : List Span) (place low : ℕ) (found all : List ℕ) → low ≤ place → ((q : ℕ) → low ≤ q → q < place → is_where p (slice_get spans q) ≡ false)
    → places_where p (take (suc place) spans) ++ reverse found ≡ all → places_where p (take low spans) ++ reverse (found ++ among p spans (place ∷ [])) ≡ all
places-step p spans place low found all le others so_far =
    let one = among p spans (place ∷ []) in
    let first = places_where p (take place spans) in
    ap (λ some. some ++ reverse (found ++ one)) (places-skip p spans low place le others)
    ∙ ap (λ some. first ++ some) (reverse-append found one ∙ ap (λ some. some ++ reverse found) (reverse-one p spans place))
    ∙ sym (append_assoc first one (reverse found))
    ∙ ap (λ some. some ++ reverse found) (sym (places-one p place spans))
    ∙ so_far

-- it begins at the last place
pub places-begin : (p : Span → Bool) (spans : List Span) (low high : ℕ) → low ≤ high → ((q : ℕ) → low ≤ q → q < high → is_where p (slice_get spans q) ≡ false)
    → places_where p (take low spans) ++ [] ≡ places_where p (take high spans)
places-begin p spans low high le others = append-nil (places_where p (take low spans)) ∙ places-skip p spans low high le others

-- ---- spans with a cell

pub equal-keys : (x y : Cell) → are_equal x y ≡ true → key_of_cell x ≡ key_of_cell y
equal-keys (cell.Int a) (cell.Int b) e = ap (λ n. key_of_cell (cell.Int n)) (exact_signed a b (equal_from_is_eq (int_cmp a b) e))
equal-keys (cell.Text s) (cell.Text t) e = ap (λ n. key_of_cell (cell.Text n)) (exact_bytes s t (equal_from_is_eq (slice_cmp nat_cmp s t) e))
equal-keys _ _ e = absurd (cc)

pub mapped-at : {X Y : Type 0} (f : X → Y) (xs : List X) (q : ℕ) (x : X) → slice_get xs q ≡ Some x → slice_get (map f xs) q ≡ Some (f x)
mapped-at f [] q x at = absurd (cc)
mapped-at f (y ∷ xs) zero x at = let e : y ≡ x = cc in ap (λ z. Some (f z)) e
mapped-at f (y ∷ xs) (suc q) x at = mapped-at f xs q x at

-- where the key of the cell is not, there is no span with the cell
pub no-key : (v column : ℕ) (x : Cell) (spans : List Span) (q : ℕ) → (slice_get (keys_by (variant.Column column) spans) q ≡ Some (key_of_cell x) → ⊥) → is_where (holds_with v column x) (slice_get spans q) ≡ false
no-key v column x spans q other =
    elim (slice_get spans q) as (λ o. slice_get spans q ≡ o → is_where (holds_with v column x) o ≡ false) [
      | None ↦ λ is. refl
      | Some span ↦ λ is. false_from_ne_true (holds_with v column x span) (λ holds.
          let same = (and_parts (holds_at v span) (are_equal (cell_at column span.row) x) holds).1 in
          other (mapped-at (key_by (variant.Column column)) spans q span is ∙ ap Some (equal-keys (cell_at column span.row) x same)))
    ] refl
