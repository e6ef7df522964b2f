-- What one pass over two sorted answers carries and ends is what the numbers of their rows say: a row goes on with a number that both reach.
use Rattle.std.proofs.Common.{◌≡◌, ℕ, zero, suc, ◌+◌, ◌<◌, ◌≤◌, Bool, true, false, cond, List, [], ◌∷◌, ◌++◌, length, map, None, refl, sym, ap, ◌∙◌, subst, arith, add-one}
use Rattle.std.specs.Prelude.{filter, nat_le, nat_lt}
use Rattle.std.specs.FinMap.Entries.{by_order}
use Rattle.std.specs.List.{zip}
use Rattle.std.specs.List.Sorted.{IsSorted}
use Rattle.std.specs.Ordering.{is_eq, is_le, is_lt, ordering_reverse}
use Rattle.std.specs.declared.cmp.Ordering.{Ordering}
use Rattle.std.specs.declared.cmp.Ordering.TheVariants.{Less, Equal, Greater}
use Rattle.std.proofs.lemmas.Bool.{le-leb, le-ltb, lt-leb, lt-ltb}
use Rattle.std.proofs.lemmas.Cmp.{tied_itself}
use Rattle.gp_base.specs.declared.cell.Cell.{Cell}
use Rattle.gp_base.specs.Order.{row_cmp}
use Rattle.gp_base.specs.RowOrder.{exact_rows, row_cmp_total}
use Rattle.gp_base.proofs.OrderLemmas.{equal_from_is_eq}
use Rattle.gp_base.proofs.SmallLemmas.{map-map}
use Rattle.gp_ask.specs.IntervalForms.{Open, carried, carried_from, closed, closed_from, closed_upto, ended, open_at, still_open}
use Rattle.gp_ask.specs.Intervals.{Interval, ending_before, first_with, interval_upto, intervals, numbered, times}

abbrev Row : Type 0
Row = List Cell

-- a row with its number
abbrev Place : Type 0
Place = Row × ℕ

-- ---- rows in order

-- none is before the row
abbrev pub AreAbove : Row → List Row → Type 0
AreAbove x [] = Unit {0}
AreAbove x (y ∷ ys) = (is_le (row_cmp x y) ≡ true) × AreAbove x ys

abbrev pub Ascends : List Row → Type 0
Ascends [] = Unit {0}
Ascends (x ∷ xs) = AreAbove x xs × Ascends xs

untrue : {P : Type 0} → false ≡ true → P
untrue is = absurd cc

not-before : (o : Ordering) → is_lt (ordering_reverse o) ≡ false → is_le o ≡ true
not-before Less is = refl
not-before Equal is = refl
not-before Greater is = absurd cc

turned : (x y : Row) → is_lt (row_cmp y x) ≡ false → is_le (row_cmp x y) ≡ true
turned x y is = not-before (row_cmp x y) (subst (λ (o : Ordering). is_lt o ≡ false) (row_cmp_total.antisymm y x) is)

le-through : (x y z : Row) → is_le (row_cmp x y) ≡ true → is_le (row_cmp y z) ≡ true → is_le (row_cmp x z) ≡ true
le-through x y z first second = by (row_cmp x y) (row_cmp y z) refl refl first second
  where
    by : (o u : Ordering) → row_cmp x y ≡ o → row_cmp y z ≡ u → is_le o ≡ true → is_le u ≡ true → is_le (row_cmp x z) ≡ true
    by Greater u is own w v = untrue w
    by Equal u is own w v = subst (λ (row : Row). is_le (row_cmp row z) ≡ true) (sym (exact_rows x y is)) (subst (λ (o : Ordering). is_le o ≡ true) (sym own) v)
    by Less Greater is own w v = untrue v
    by Less Equal is own w v = subst (λ (row : Row). is_le (row_cmp x row) ≡ true) (exact_rows y z own) (ap is_le is)
    by Less Less is own w v = ap is_le (row_cmp_total.trans x y z is own)

above-through : (x y : Row) (zs : List Row) → is_le (row_cmp x y) ≡ true → AreAbove y zs → AreAbove x zs
above-through x y [] first all = tt
above-through x y (z ∷ zs) first all = (le-through x y z first all.0, above-through x y zs first all.1)

pub ascends : (xs : List Row) → IsSorted row_cmp xs → Ascends xs
ascends [] sorted = tt
ascends (x ∷ []) sorted = (tt, tt)
ascends (x ∷ y ∷ ys) sorted =
    let first : is_le (row_cmp x y) ≡ true = turned x y (sorted 0 x (omega arith) (omega arith)) in
    let rest : Ascends (y ∷ ys) = ascends (y ∷ ys) (λ k d low high. rw add-one (simp add-one at (sorted (suc k) d (omega arith) (omega arith)))) in
    ((first, above-through x y ys first rest.0), rest)

-- ---- how often a row occurs

abbrev equals : Row → List Row → List Row
equals r xs = filter (λ other. is_eq (row_cmp r other)) xs

pub times-itself : (x : Row) (xs : List Row) → times x (x ∷ xs) ≡ suc (times x xs)
times-itself x xs = ap (λ (o : Ordering). length (cond (is_eq o) (x ∷ equals x xs) (equals x xs))) (tied_itself row_cmp_total x)

times-other : (r x : Row) (xs : List Row) → is_eq (row_cmp r x) ≡ false → times r (x ∷ xs) ≡ times r xs
times-other r x xs is = ap (λ b. length (cond b (x ∷ equals r xs) (equals r xs))) is

-- one more row makes it no rarer
grows : (r x : Row) (xs : List Row) → times r xs ≤ times r (x ∷ xs)
grows r x xs = elim (is_eq (row_cmp r x)) as (λ b. times r xs ≤ length (cond b (x ∷ equals r xs) (equals r xs))) [ true ↦ omega arith | false ↦ omega arith ]

-- the first row of some becomes one of others
moved : (r x : Row) (before xs : List Row) → times r before + times r (x ∷ xs) ≡ times r (x ∷ before) + times r xs
moved r x before xs =
    elim (is_eq (row_cmp r x)) as (λ b. times r before + length (cond b (x ∷ equals r xs) (equals r xs)) ≡ length (cond b (x ∷ equals r before) (equals r before)) + times r xs) [
      | true ↦ omega arith
      | false ↦ refl
    ]

less-through : (x y z : Row) → row_cmp x y ≡ Less → is_le (row_cmp y z) ≡ true → row_cmp x z ≡ Less
less-through x y z less within = by (row_cmp y z) refl within
  where
    by : (o : Ordering) → row_cmp y z ≡ o → is_le o ≡ true → row_cmp x z ≡ Less
    by Less is w = row_cmp_total.trans x y z less is
    by Equal is w = subst (λ (row : Row). row_cmp x row ≡ Less) (exact_rows y z is) less
    by Greater is w = untrue w

-- a row is not among later ones
none-above : (x y : Row) (ys : List Row) → row_cmp x y ≡ Less → AreAbove y ys → times x ys ≡ 0
none-above x y [] less all = refl
none-above x y (z ∷ zs) less all = times-other x z zs (ap is_eq (less-through x y z less all.0)) ∙ none-above x y zs less all.1

none-behind : (x y : Row) (ys : List Row) → row_cmp x y ≡ Less → Ascends (y ∷ ys) → times x (y ∷ ys) ≡ 0
none-behind x y ys less up = times-other x y ys (ap is_eq less) ∙ none-above x y ys less up.0

-- ---- what is done of two answers, and what remains of them

pub record Both (one two : Row → ℕ) (done xs made ys : List Row) : Type 0 where
  pub left : (r : Row) → one r ≡ times r done + times r xs
  pub right : (r : Row) → two r ≡ times r made + times r ys
  pub first : (r : Row) → 0 < times r xs → times r made ≤ times r done
  pub second : (r : Row) → 0 < times r ys → times r done ≤ times r made
  pub up : Ascends xs
  pub down : Ascends ys

other-way : (one two : Row → ℕ) (done xs made ys : List Row) → Both one two done xs made ys → Both two one made ys done xs
other-way one two done xs made ys both = record { left = both.right; right = both.left; first = both.second; second = both.first; up = both.down; down = both.up }

-- the first row of one answer is not in what remains of the other
taken : (one two : Row → ℕ) (done : List Row) (x : Row) (xs made ys : List Row) → times x ys ≡ 0 → Both one two done (x ∷ xs) made ys → Both one two (x ∷ done) xs made ys
taken one two done x xs made ys none both = record {
  left = λ r. both.left r ∙ moved r x done xs;
  right = both.right;
  first = λ r some. let was = both.first r (omega (arith, grows r x xs)) in omega (arith, grows r x done);
  second = λ r some.
      elim (is_eq (row_cmp r x)) as (λ b. is_eq (row_cmp r x) ≡ b → length (cond b (x ∷ equals r done) (equals r done)) ≤ times r made) [
        | true ↦ λ is. let same : r ≡ x = exact_rows r x (equal_from_is_eq (row_cmp r x) is) in absurd (omega (arith, some, ap (λ (row : Row). times row ys) same, none))
        | false ↦ λ is. both.second r some
      ] refl;
  up = both.up.1;
  down = both.down;
}

-- both have it first
shared : (one two : Row → ℕ) (done : List Row) (x : Row) (xs made ys : List Row) → Both one two done (x ∷ xs) made (x ∷ ys) → Both one two (x ∷ done) xs (x ∷ made) ys
shared one two done x xs made ys both = record {
  left = λ r. both.left r ∙ moved r x done xs;
  right = λ r. both.right r ∙ moved r x made ys;
  first = λ r some. rises r done made (both.first r (omega (arith, grows r x xs)));
  second = λ r some. rises r made done (both.second r (omega (arith, grows r x ys)));
  up = both.up.1;
  down = both.down.1;
}
  where
    rises : (r : Row) (more less : List Row) → times r less ≤ times r more → times r (x ∷ less) ≤ times r (x ∷ more)
    rises r more less within =
        elim (is_eq (row_cmp r x)) as (λ b. length (cond b (x ∷ equals r less) (equals r less)) ≤ length (cond b (x ∷ equals r more) (equals r more))) [
          | true ↦ omega arith
          | false ↦ within
        ]

-- the number of the first row
abbrev number : Row → List Row → ℕ
number x before = suc (times x before)

-- a row that the other answer does not have so often
fewer : (one two : Row → ℕ) (done : List Row) (x : Row) (xs made ys : List Row) → times x ys ≡ 0 → Both one two done (x ∷ xs) made ys → two x < number x done
fewer one two done x xs made ys none both =
    let was = both.first x (omega (arith, times-itself x xs)) in omega (arith, both.right x, none)

-- ---- one pass

module _ (one two : Row → ℕ) (version : ℕ) (begin : Place → ℕ) where
  -- the rows that are open, with the versions at which they began
  abbrev opened : List Row → List Row → List Open
  opened done xs = map (λ (own : Place). (own.0, begin own)) (numbered done xs)

  abbrev goes-on : Place → ℕ
  goes-on own = cond (nat_le own.1 (one own.0)) (begin own) version

  abbrev ends-here : Place → Interval
  ends-here own = ended version (own.0, begin own)

  abbrev is-rare : Place → Bool
  is-rare own = nat_lt (two own.0) own.1

  abbrev in-one : Place → Bool
  in-one own = nat_le own.1 (one own.0)

  abbrev in-two : Place → Bool
  in-two own = nat_le own.1 (two own.0)

  pub record Passed (froms : List ℕ) (over : List Interval) (done xs made ys : List Row) : Type 0 where
    pub carries : froms ≡ map goes-on (numbered made ys)
    pub closes : over ≡ map ends-here (filter is-rare (numbered done xs))
    pub shares : filter in-two (numbered done xs) ≡ filter in-one (numbered made ys)

  -- a row of the old answer alone
  ending : (done : List Row) (x : Row) (xs made ys : List Row) (froms : List ℕ) (over : List Interval) → two x < number x done → Passed froms over (x ∷ done) xs made ys
      → Passed froms (ended version (x, begin (x, number x done)) ∷ over) done (x ∷ xs) made ys
  ending done x xs made ys froms over rare rest =
      let own : Place = (x, number x done) in
      record {
        carries = rest.carries;
        closes =
            ap (λ (list : List Interval). ends-here own ∷ list) rest.closes
            ∙ ap (λ b. map ends-here (cond b (own ∷ filter is-rare (numbered (x ∷ done) xs)) (filter is-rare (numbered (x ∷ done) xs)))) (sym (lt-ltb (two x) (number x done) rare));
        shares = ap (λ b. cond b (own ∷ filter in-two (numbered (x ∷ done) xs)) (filter in-two (numbered (x ∷ done) xs))) (lt-leb (number x done) (two x) rare) ∙ rest.shares;
      }

  -- a row of the new answer alone
  beginning : (done xs made : List Row) (y : Row) (ys : List Row) (froms : List ℕ) (over : List Interval) → one y < number y made → Passed froms over done xs (y ∷ made) ys
      → Passed (version ∷ froms) over done xs made (y ∷ ys)
  beginning done xs made y ys froms over rare rest =
      let own : Place = (y, number y made) in
      let none : nat_le (number y made) (one y) ≡ false = lt-leb (number y made) (one y) rare in
      record {
        carries =
            ap (λ (list : List ℕ). version ∷ list) rest.carries
            ∙ ap (λ b. cond b (begin own) version ∷ map goes-on (numbered (y ∷ made) ys)) (sym none);
        closes = rest.closes;
        shares = rest.shares ∙ ap (λ b. cond b (own ∷ filter in-one (numbered (y ∷ made) ys)) (filter in-one (numbered (y ∷ made) ys))) (sym none);
      }

  -- a row of both
  going : (done : List Row) (x : Row) (xs made ys : List Row) (froms : List ℕ) (over : List Interval) → Both one two done (x ∷ xs) made (x ∷ ys) → Passed froms over (x ∷ done) xs (x ∷ made) ys
      → Passed (begin (x, number x done) ∷ froms) over done (x ∷ xs) made (x ∷ ys)
  going done x xs made ys froms over both rest =
      let first = both.first x (omega (arith, times-itself x xs)) in
      let second = both.second x (omega (arith, times-itself x ys)) in
      let alike : number x done ≡ number x made = omega arith in
      let old : number x done ≤ two x = omega (arith, both.right x, times-itself x ys) in
      let new : number x made ≤ one x = omega (arith, both.left x, times-itself x xs) in
      record {
        carries =
            ap (λ (list : List ℕ). begin (x, number x done) ∷ list) rest.carries
            ∙ ap (λ n. begin (x, n) ∷ map goes-on (numbered (x ∷ made) ys)) alike
            ∙ ap (λ b. cond b (begin (x, number x made)) version ∷ map goes-on (numbered (x ∷ made) ys)) (sym (le-leb (number x made) (one x) new));
        closes =
            rest.closes
            ∙ ap (λ b. map ends-here (cond b ((x, number x done) ∷ filter is-rare (numbered (x ∷ done) xs)) (filter is-rare (numbered (x ∷ done) xs)))) (sym (le-ltb (two x) (number x done) old));
        shares =
            ap (λ b. cond b ((x, number x done) ∷ filter in-two (numbered (x ∷ done) xs)) (filter in-two (numbered (x ∷ done) xs))) (le-leb (number x done) (two x) old)
            ∙ ap (λ (list : List Place). (x, number x done) ∷ list) rest.shares
            ∙ ap (λ n. (x, n) ∷ filter in-one (numbered (x ∷ made) ys)) alike
            ∙ ap (λ b. cond b ((x, number x made) ∷ filter in-one (numbered (x ∷ made) ys)) (filter in-one (numbered (x ∷ made) ys))) (sym (le-leb (number x made) (one x) new));
      }

  -- nothing remains of the old answer
  old-done : (done made ys : List Row) → Both one two done [] made ys → Passed (map (λ row. version) ys) [] done [] made ys
  old-done done made [] both = record { carries = refl; closes = refl; shares = refl }
  old-done done made (y ∷ ys) both =
      beginning done [] made y ys (map (λ row. version) ys) [] (fewer two one made y ys done [] refl (other-way one two done [] made (y ∷ ys) both))
      (old-done done (y ∷ made) ys (other-way two one (y ∷ made) ys done [] (taken two one made y ys done [] refl (other-way one two done [] made (y ∷ ys) both))))

  -- its first row, given what is said of the others
  from-first : (done : List Row) (x : Row) (xs : List Row)
      → ((made ys : List Row) → Both one two (x ∷ done) xs made ys → Passed (carried version (opened (x ∷ done) xs) ys) (closed version (opened (x ∷ done) xs) ys) (x ∷ done) xs made ys)
      → (made ys : List Row) → Both one two done (x ∷ xs) made ys
      → Passed (carried version (opened done (x ∷ xs)) ys) (closed version (opened done (x ∷ xs)) ys) done (x ∷ xs) made ys
  from-first done x xs rest made [] both =
      let own = rest made [] (taken one two done x xs made [] refl both) in
      let none : carried version (opened (x ∷ done) xs) [] ≡ [] = own.carries in
      ending done x xs made [] [] (closed version (opened (x ∷ done) xs) []) (fewer one two done x xs made [] refl both)
      (record { carries = refl; closes = own.closes; shares = own.shares })
  from-first done x xs rest made (y ∷ ys) both =
      let own : Open = (x, begin (x, number x done)) in
      let old = opened (x ∷ done) xs in
      elim (row_cmp x y) as (λ o. row_cmp x y ≡ o
      → Passed (by_order o (carried version old (y ∷ ys)) (own.1 ∷ carried version old ys) (version ∷ carried_from version own (carried version old) ys))
      (by_order o (ended version own ∷ closed version old (y ∷ ys)) (closed version old ys) (closed_from version own (closed version old) ys)) done (x ∷ xs) made (y ∷ ys)) [
        | Less ↦ λ is.
            let none : times x (y ∷ ys) ≡ 0 = none-behind x y ys is both.down in
            ending done x xs made (y ∷ ys) (carried version old (y ∷ ys)) (closed version old (y ∷ ys)) (fewer one two done x xs made (y ∷ ys) none both)
            (rest made (y ∷ ys) (taken one two done x xs made (y ∷ ys) none both))
        | Equal ↦ λ is.
            let same : x ≡ y = exact_rows x y is in
            let both-x : Both one two done (x ∷ xs) made (x ∷ ys) = subst (λ (row : Row). Both one two done (x ∷ xs) made (row ∷ ys)) (sym same) both in
            subst (λ (row : Row). Passed (own.1 ∷ carried version old ys) (closed version old ys) done (x ∷ xs) made (row ∷ ys)) same
            (going done x xs made ys (carried version old ys) (closed version old ys) both-x (rest (x ∷ made) ys (shared one two done x xs made ys both-x)))
        | Greater ↦ λ is.
            let less : row_cmp y x ≡ Less = row_cmp_total.antisymm y x ∙ ap ordering_reverse is in
            let none : times y (x ∷ xs) ≡ 0 = none-behind y x xs less both.up in
            let turn : Both two one made (y ∷ ys) done (x ∷ xs) = other-way one two done (x ∷ xs) made (y ∷ ys) both in
            beginning done (x ∷ xs) made y ys (carried_from version own (carried version old) ys) (closed_from version own (closed version old) ys) (fewer two one made y ys done (x ∷ xs) none turn)
            (from-first done x xs rest (y ∷ made) ys (other-way two one (y ∷ made) ys done (x ∷ xs) (taken two one made y ys done (x ∷ xs) none turn)))
      ] refl

  passed : (done xs made ys : List Row) → Both one two done xs made ys → Passed (carried version (opened done xs) ys) (closed version (opened done xs) ys) done xs made ys
  passed done [] made ys both = old-done done made ys both
  passed done (x ∷ xs) made ys both = from-first done x xs (λ next others. passed (x ∷ done) xs next others) made ys both

-- ---- two answers

both-whole : (xs ys : List Row) → Ascends xs → Ascends ys → Both (λ r. times r xs) (λ r. times r ys) [] xs [] ys
both-whole xs ys up down = record { left = λ r. omega arith; right = λ r. omega arith; first = λ r some. omega arith; second = λ r some. omega arith; up = up; down = down }

module _ (version : ℕ) (begin : Place → ℕ) (xs ys : List Row) (up : Ascends xs) (down : Ascends ys) where
  pub pass : Passed (λ r. times r xs) (λ r. times r ys) version begin (carried version (map (λ (own : Place). (own.0, begin own)) (numbered [] xs)) ys)
      (closed version (map (λ (own : Place). (own.0, begin own)) (numbered [] xs)) ys) [] xs [] ys
  pass = passed (λ r. times r xs) (λ r. times r ys) version begin [] xs [] ys (both-whole xs ys up down)

-- ---- all versions

zipped : (before rows : List Row) (begin : Place → ℕ) → zip rows (map begin (numbered before rows)) ≡ map (λ (own : Place). (own.0, begin own)) (numbered before rows)
zipped before [] begin = refl
zipped before (row ∷ rows) begin = ap (λ (rest : List Open). (row, begin (row, suc (times row before))) ∷ rest) (zipped (row ∷ before) rows begin)

pub rows-are : (done rows : List Row) → map (λ (own : Place). own.0) (numbered done rows) ≡ rows
rows-are done [] = refl
rows-are done (row ∷ rows) = ap (λ (rest : List Row). row ∷ rest) (rows-are (row ∷ done) rows)

same-begin : (before rows : List Row) (version : ℕ) → map (λ row. version) rows ≡ map (λ (own : Place). version) (numbered before rows)
same-begin before [] version = refl
same-begin before (row ∷ rows) version = ap (λ (rest : List ℕ). version ∷ rest) (same-begin (row ∷ before) rows version)

module _ (answers : ℕ → List Row) (sorted : (version : ℕ) → Ascends (answers version)) where
  abbrev begun : ℕ → Place → ℕ
  begun version own = first_with answers own.0 own.1 version

  abbrev open-of : ℕ → List Open
  open-of version = map (λ (own : Place). (own.0, begun version own)) (numbered [] (answers version))

  step : (version : ℕ) → Passed (λ r. times r (answers version)) (λ r. times r (answers (suc version))) (suc version) (begun version) (carried (suc version) (open-of version) (answers (suc version)))
      (closed (suc version) (open-of version) (answers (suc version))) [] (answers version) [] (answers (suc version))
  step version = pass (suc version) (begun version) (answers version) (answers (suc version)) (sorted version) (sorted (suc version))

  pub open-is : (version : ℕ) → open_at answers version ≡ open-of version
  open-is zero = ap (zip (answers zero)) (same-begin [] (answers zero) zero) ∙ zipped [] (answers zero) (λ own. zero)
  open-is (suc version) =
      ap (λ (old : List Open). zip (answers (suc version)) (carried (suc version) old (answers (suc version)))) (open-is version)
      ∙ ap (zip (answers (suc version))) (step version).carries
      ∙ zipped [] (answers (suc version)) (begun (suc version))

  -- its rows are the answer
  pub open-rows : (version : ℕ) → map (λ (own : Open). own.0) (open_at answers version) ≡ answers version
  open-rows version =
      ap (map (λ (own : Open). own.0)) (open-is version)
      ∙ map-map (λ (own : Open). own.0) (λ (own : Place). (own.0, begun version own)) (numbered [] (answers version))
      ∙ rows-are [] (answers version)

  pub closed-is : (version : ℕ) → closed_upto answers version ≡ ending_before answers version
  closed-is zero = refl
  closed-is (suc version) =
      let last : closed (suc version) (open_at answers version) (answers (suc version)) ≡ closed (suc version) (open-of version) (answers (suc version)) = ap (λ (old : List Open). closed (suc version) old (answers (suc version))) (open-is version) in
      (λ i. closed-is version i ++ last i) ∙ ap (λ (list : List Interval). ending_before answers version ++ list) (step version).closes

  -- what is made in one pass over the versions
  pub all-made : (last : ℕ) → closed_upto answers last ++ map still_open (open_at answers last) ≡ intervals answers last
  all-made last =
      (λ i. closed-is last i ++ map still_open (open-is last i))
      ∙ ap (λ (list : List Interval). ending_before answers last ++ list) (map-places (numbered [] (answers last)))
    where
      map-places : (places : List Place) → map still_open (map (λ (own : Place). (own.0, begun last own)) places) ≡ map (interval_upto answers last None) places
      map-places [] = refl
      map-places (own ∷ places) = ap (λ (rest : List Interval). interval_upto answers last None own ∷ rest) (map-places places)
