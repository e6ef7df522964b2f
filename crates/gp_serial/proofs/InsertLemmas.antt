-- Cycles that are inserted into a set, and the count of their lines.
use Rattle.gp_serial.proofs.Prelude.{Vec, Global, and_parts, append-nil, drop, if◌then◌else◌, list_any, take, filter, flat_map, get_or, option_map_or, ◌≡◌, ◌+◌, ◌-◌, ◌<◌, ◌≤◌, ℕ, suc, Bool, true, false, List, [], ◌∷◌, ◌++◌, length, Option, Some, None, refl, sym, ap, ◌∙◌, subst, arith, inl, inr, nat_le, AllByRecursion, slice_cmp, ordering_then, Less, Equal, Greater, cases_lt, false≢true}
use Rattle.std.specs.BTreeSet.{insert_key}
use Rattle.std.specs.List.{AllPairs}
use Rattle.std.specs.Ordering.{is_eq, match_ordering, nat_cmp}
use Rattle.std.specs.declared.cmp.Ordering.{Ordering}
use Rattle.std.proofs.lemmas.Bool.{le-leb, le-ltb, leb-false, leb-true, lt-leb, lt-ltb, or_from, or_parts}
use Rattle.std.proofs.lemmas.Grind.{flat_map-append}
use Rattle.std.proofs.lemmas.List.{take-append-drop, take_more}
use Rattle.std.specs.BTreeMap.{is_at}
use Rattle.gp_serial.specs.PairCycles.{cycle_cmp, cycle_through, cycles_back, inserted, line_count}
use Rattle.gp_serial.specs.PathForms.{AreCounted, AreLists, AreCollected, Inserts, after, before, cycle_by, few_cycles, goes_back, list_at, numbers_of, paths_to}
use Rattle.gp_serial.specs.PathForms as form
use Rattle.gp_serial.specs.contracts.pair_cycle.CycleOrd.TheImpl as order
use Rattle.gp_serial.specs.declared.pair_cycle.Cycle.{Cycle}
use Rattle.gp_serial.specs.declared.pair_cycle.Path.{Path}
use Rattle.gp_serial.proofs.LeastLemmas.{ascends, each_in, from_in, is_in, itself_in}
use Rattle.gp_serial.proofs.PairLemmas.{pair_is}
use Rattle.gp_serial.proofs.PathLemmas.{filter_each}

-- ---- one more does not take lines off

count_insert : (kept : List (List ℕ)) (cycle : List ℕ) → line_count kept ≤ line_count (insert_key cycle_cmp kept cycle)
count_insert [] cycle = omega arith
count_insert (own ∷ kept) cycle = by (cycle_cmp cycle own) (count_insert kept cycle)
  where
    by : (o : Ordering) → line_count kept ≤ line_count (insert_key cycle_cmp kept cycle)
        → line_count (own ∷ kept) ≤ line_count (match_ordering o (cycle ∷ own ∷ kept) (own ∷ kept) (own ∷ insert_key cycle_cmp kept cycle))
    by Less more = omega arith
    by Equal more = omega arith
    by Greater more = omega (arith, more)

count_inserted : (more kept : List (List ℕ)) → line_count kept ≤ line_count (inserted kept more)
count_inserted [] kept = omega arith
count_inserted (cycle ∷ more) kept =
    let one = count_insert kept cycle in
    let others = count_inserted more (insert_key cycle_cmp kept cycle) in
    omega (arith, one, others)

pub inserted_append : (more later kept : List (List ℕ)) → inserted kept (more ++ later) ≡ inserted (inserted kept more) later
inserted_append [] later kept = refl
inserted_append (cycle ∷ more) later kept = inserted_append more later (insert_key cycle_cmp kept cycle)

-- ---- one call behind the other

pub inserts_none : (most : ℕ) (cycles : List Cycle) (lines : ℕ) → AreCollected most cycles lines → Inserts most [] cycles cycles lines true
inserts_none most cycles lines kept = record {
  fits-is = sym (le-leb (line_count (numbers_of cycles)) most (let is = kept.lines-is in let few = kept.few in omega (arith, is, few)));
  kept = λ fits. (refl, kept);
}

-- what was too much stays so
pub inserts_stop : (most : ℕ) (more later : List (List ℕ)) (old new : List Cycle) (lines : ℕ) → Inserts most more old new lines false → (newer : List Cycle) (lines-now : ℕ)
    → Inserts most (more ++ later) old newer lines-now false
inserts_stop most more later old new lines one newer lines-now = record {
  fits-is = sym (lt-leb (line_count (inserted (numbers_of old) (more ++ later))) most above);
  kept = λ fits. absurd (false≢true fits);
}
  where
    over : most < line_count (inserted (numbers_of old) more)
    over = elim (cases_lt most (line_count (inserted (numbers_of old) more))) [
      | inl less ↦ less
      | inr few ↦ absurd (false≢true (one.fits-is ∙ le-leb (line_count (inserted (numbers_of old) more)) most few))
    ]

    above : most < line_count (inserted (numbers_of old) (more ++ later))
    above =
        subst (λ list. most < line_count list) (sym (inserted_append more later (numbers_of old)))
        (let grown = count_inserted later (inserted (numbers_of old) more) in omega (arith, over, grown))

pub inserts_then : (most : ℕ) (more later : List (List ℕ)) (old new newer : List Cycle) (lines lines-now : ℕ) (fits : Bool)
    → Inserts most more old new lines true → Inserts most later new newer lines-now fits → Inserts most (more ++ later) old newer lines-now fits
inserts_then most more later old new newer lines lines-now fits one two =
    let kept = one.kept refl in
    let whole : inserted (numbers_of new) later ≡ inserted (numbers_of old) (more ++ later) =
    ap (λ list. inserted list later) kept.0 ∙ sym (inserted_append more later (numbers_of old)) in
    record {
      fits-is = two.fits-is ∙ ap (λ list. nat_le (line_count list) most) whole;
      kept = λ is. ((two.kept is).0 ∙ whole, (two.kept is).1);
    }

-- ---- the cycles that the search finds

flat_same : {A : Type 0} (f g : ℕ → List A) (xs : List ℕ) → AllByRecursion (λ x. f x ≡ g x) xs → flat_map f xs ≡ flat_map g xs
flat_same f g [] each = refl
flat_same f g (x ∷ xs) (own, each) = λ i. own i ++ flat_same f g xs each i

module _ (is_before : ℕ → ℕ → Bool) (all versions : List ℕ) (up : AllPairs (λ a b. a < b) all) (count : ℕ) (each-below : AllByRecursion (λ t. t < count) all)
    (befores afters : List (Vec ℕ Global)) (are-before : AreLists (before is_before all) count befores) (are-after : AreLists (after is_before all) count afters) where
  below : (t : ℕ) → is_in all t ≡ true → t < count
  below t inside = each_in (λ n. n < count) all each-below t (from_in all t inside)

  of-pairs : (a : ℕ) → is_in all a ≡ true → (bs : List ℕ) → AllByRecursion (λ b. (is_in all b ≡ true) × (goes_back is_before versions a b ≡ true)) bs
      → form.cycles_back (list_at befores) (list_at afters) count (length all - 1) bs a
      ≡ flat_map (λ b. option_map_or (λ (cycle : List ℕ). cycle ∷ []) (cycle_through is_before all a b) []) bs
  of-pairs a inside bs each =
      flat_same (λ b. option_map_or (λ (path : Path). cycle_by (list_at befores) (list_at afters) count to_a path b ∷ []) (get_or to_a b None) [])
      (λ b. option_map_or (λ (cycle : List ℕ). cycle ∷ []) (cycle_through is_before all a b) []) bs (same bs each)
    where
      to_a : List (Option Path)
      to_a = paths_to (list_at befores) count (length all - 1) a

      same : (bs : List ℕ) → AllByRecursion (λ b. (is_in all b ≡ true) × (goes_back is_before versions a b ≡ true)) bs
          → AllByRecursion (λ b. option_map_or (λ (path : Path). cycle_by (list_at befores) (list_at afters) count to_a path b ∷ []) (get_or to_a b None) []
          ≡ option_map_or (λ (cycle : List ℕ). cycle ∷ []) (cycle_through is_before all a b) []) bs
      same [] each = tt
      same (b ∷ bs) ((there, back), each) = (
        pair_is is_before all (ascends all up) count below (list_at befores) (list_at afters) are-before.each are-after.each a b inside there
            (and_parts (is_before a b) _ back).0,
        same bs each,
      )

  -- the search finds those of the pairs that go back
  pub cycles_are : form.all_cycles is_before versions all (list_at befores) (list_at afters) count (length all - 1) all
      ≡ flat_map (cycles_back is_before all (goes_back is_before versions)) all
  cycles_are =
      flat_same (λ a. form.cycles_back (list_at befores) (list_at afters) count (length all - 1) (filter (goes_back is_before versions a) all) a)
      (cycles_back is_before all (goes_back is_before versions)) all (each all (itself_in all))
    where
      each : (list : List ℕ) → AllByRecursion (λ a. is_in all a ≡ true) list
          → AllByRecursion (λ a. form.cycles_back (list_at befores) (list_at afters) count (length all - 1) (filter (goes_back is_before versions a) all) a
          ≡ cycles_back is_before all (goes_back is_before versions) a) list
      each [] inside = tt
      each (a ∷ list) (inside, rest) = (
        of-pairs a inside (filter (goes_back is_before versions a) all) (filter_each (λ b. is_in all b ≡ true) (goes_back is_before versions a) all (itself_in all)),
        each list rest,
      )

  -- and so it inserts them
  pub cycles_inserted : (most steps : ℕ) → steps ≡ length all - 1 → (old : List Cycle) → old ≡ [] → (new : List Cycle) (lines : ℕ) (fits : Bool)
      → Inserts most (form.all_cycles is_before versions all (list_at befores) (list_at afters) (length befores) steps all) old new lines fits
      → Inserts most (flat_map (cycles_back is_before all (goes_back is_before versions)) all) [] new lines fits
  cycles_inserted most steps last old none new lines fits kept =
      subst (λ list. Inserts most list [] new lines fits) cycles_are
      (subst (λ own. Inserts most (form.all_cycles is_before versions all (list_at befores) (list_at afters) count (length all - 1) all) own new lines fits) none
      (subst (λ n. Inserts most (form.all_cycles is_before versions all (list_at befores) (list_at afters) count n all) old new lines fits) last
      (subst (λ n. Inserts most (form.all_cycles is_before versions all (list_at befores) (list_at afters) n steps all) old new lines fits) are-before.long kept)))

-- ---- the order of cycles

cmp_is : (x y : Cycle) → (order.cmp-value).it x y ≡ ordering_then (nat_cmp x.count y.count) (slice_cmp nat_cmp x.numbers.items y.numbers.items)
cmp_is x y = refl

cycle_is : (x y : Cycle) → x.count ≡ length x.numbers.items → y.count ≡ length y.numbers.items → (order.cmp-value).it x y ≡ cycle_cmp x.numbers.items y.numbers.items
cycle_is x y one two = cmp_is x y ∙ (λ i. ordering_then (nat_cmp (one i) (two i)) (slice_cmp nat_cmp x.numbers.items y.numbers.items))

insert_numbers : (cycle : Cycle) (cycles : List Cycle) → cycle.count ≡ length cycle.numbers.items → AreCounted cycles
    → numbers_of (insert_key (order.cmp-value).it cycles cycle) ≡ insert_key cycle_cmp (numbers_of cycles) cycle.numbers.items
insert_numbers cycle [] own each = refl
insert_numbers cycle (other ∷ cycles) own (first, each) =
    by ((order.cmp-value).it cycle other) (insert_numbers cycle cycles own each)
    ∙ ap (λ o. match_ordering o (cycle.numbers.items ∷ other.numbers.items ∷ numbers_of cycles) (other.numbers.items ∷ numbers_of cycles)
    (other.numbers.items ∷ insert_key cycle_cmp (numbers_of cycles) cycle.numbers.items)) (cycle_is cycle other own first)
  where
    by : (o : Ordering) → numbers_of (insert_key (order.cmp-value).it cycles cycle) ≡ insert_key cycle_cmp (numbers_of cycles) cycle.numbers.items
        → numbers_of (match_ordering o (cycle ∷ other ∷ cycles) (other ∷ cycles) (other ∷ insert_key (order.cmp-value).it cycles cycle))
        ≡ match_ordering o (cycle.numbers.items ∷ other.numbers.items ∷ numbers_of cycles) (other.numbers.items ∷ numbers_of cycles)
        (other.numbers.items ∷ insert_key cycle_cmp (numbers_of cycles) cycle.numbers.items)
    by Less rest = refl
    by Equal rest = refl
    by Greater rest = ap (λ list. other.numbers.items ∷ list) rest

counted_insert : (cycle : Cycle) (cycles : List Cycle) → cycle.count ≡ length cycle.numbers.items → AreCounted cycles → AreCounted (insert_key (order.cmp-value).it cycles cycle)
counted_insert cycle [] own each = (own, tt)
counted_insert cycle (other ∷ cycles) own (first, each) = by ((order.cmp-value).it cycle other) (counted_insert cycle cycles own each)
  where
    by : (o : Ordering) → AreCounted (insert_key (order.cmp-value).it cycles cycle)
        → AreCounted (match_ordering o (cycle ∷ other ∷ cycles) (other ∷ cycles) (other ∷ insert_key (order.cmp-value).it cycles cycle))
    by Less rest = (own, (first, each))
    by Equal rest = (first, each)
    by Greater rest = (first, rest)

none_same : (cycle : Cycle) (cycles : List Cycle) → cycle.count ≡ length cycle.numbers.items → AreCounted cycles → list_any (is_at ((order.cmp-value).it cycle)) cycles ≡ false
    → list_any (λ other. is_eq (cycle_cmp cycle.numbers.items other)) (numbers_of cycles) ≡ false
none_same cycle [] own each none = refl
none_same cycle (other ∷ cycles) own (first, each) none =
    let parts = or_parts (is_eq ((order.cmp-value).it cycle other)) (list_any (is_at ((order.cmp-value).it cycle)) cycles) none in
    or_from (is_eq (cycle_cmp cycle.numbers.items other.numbers.items)) (list_any (λ more. is_eq (cycle_cmp cycle.numbers.items more)) (numbers_of cycles))
    (ap is_eq (sym (cycle_is cycle other own first)) ∙ parts.0) (none_same cycle cycles own each parts.1)

-- a cycle that was not there has its lines
count_new : (kept : List (List ℕ)) (cycle : List ℕ) → list_any (λ other. is_eq (cycle_cmp cycle other)) kept ≡ false
    → line_count (insert_key cycle_cmp kept cycle) ≡ line_count kept + suc (length cycle)
count_new [] cycle none = omega arith
count_new (own ∷ kept) cycle none =
    let parts = or_parts (is_eq (cycle_cmp cycle own)) (list_any (λ other. is_eq (cycle_cmp cycle other)) kept) none in
    by (cycle_cmp cycle own) parts.0 (count_new kept cycle parts.1)
  where
    by : (o : Ordering) → is_eq o ≡ false → line_count (insert_key cycle_cmp kept cycle) ≡ line_count kept + suc (length cycle)
        → line_count (match_ordering o (cycle ∷ own ∷ kept) (own ∷ kept) (own ∷ insert_key cycle_cmp kept cycle)) ≡ line_count (own ∷ kept) + suc (length cycle)
    by Less other rest = omega arith
    by Equal other rest = absurd (false≢true (sym other))
    by Greater other rest = omega (arith, rest)

-- ---- one cycle more

module _ (most lines : ℕ) (old new : List Cycle) (cycle : Cycle) (own : cycle.count ≡ length cycle.numbers.items) (kept : AreCollected most old lines)
    (is : new ≡ insert_key (order.cmp-value).it old cycle) where
  whole : numbers_of new ≡ insert_key cycle_cmp (numbers_of old) cycle.numbers.items
  whole = ap numbers_of is ∙ insert_numbers cycle old own kept.counted

  module _ (none : list_any (is_at ((order.cmp-value).it cycle)) old ≡ false) where
    grown : line_count (insert_key cycle_cmp (numbers_of old) cycle.numbers.items) ≡ lines + suc cycle.count
    grown =
        let count = count_new (numbers_of old) cycle.numbers.items (none_same cycle old own kept.counted none) in
        let before = kept.lines-is in
        omega (arith, count, before, own)

    pub insert_few : cycle.count < most - lines → Inserts most (cycle.numbers.items ∷ []) old new (lines + (cycle.count + 1)) true
    insert_few less = record {
      fits-is = sym (le-leb (line_count (insert_key cycle_cmp (numbers_of old) cycle.numbers.items)) most low);
      kept = λ fits. (
        whole,
        record {
          counted = subst AreCounted (sym is) (counted_insert cycle old own kept.counted);
          lines-is = (let same : lines + (cycle.count + 1) ≡ lines + suc cycle.count = omega arith in same) ∙ sym grown ∙ ap line_count (sym whole);
          few = omega (arith, less);
        },
      );
    }
      where
        low : line_count (insert_key cycle_cmp (numbers_of old) cycle.numbers.items) ≤ most
        low = omega (arith, grown, less)

    pub insert_over : most - lines ≤ cycle.count → (lines-now : ℕ) → Inserts most (cycle.numbers.items ∷ []) old new lines-now false
    insert_over more lines-now = record {
      fits-is = sym (lt-leb (line_count (insert_key cycle_cmp (numbers_of old) cycle.numbers.items)) most above);
      kept = λ fits. absurd (false≢true fits);
    }
      where
        above : most < line_count (insert_key cycle_cmp (numbers_of old) cycle.numbers.items)
        above = (let few = kept.few in omega (arith, grown, more, few))

  pub insert_known : new ≡ old → Inserts most (cycle.numbers.items ∷ []) old new lines true
  insert_known same = record {
    fits-is = sym (le-leb (line_count (insert_key cycle_cmp (numbers_of old) cycle.numbers.items)) most low);
    kept = λ fits. (whole, subst (λ list. AreCollected most list lines) (sym same) kept);
  }
    where
      low : line_count (insert_key cycle_cmp (numbers_of old) cycle.numbers.items) ≤ most
      low =
          let lines-same : line_count (insert_key cycle_cmp (numbers_of old) cycle.numbers.items) ≡ line_count (numbers_of old) = ap line_count (sym whole ∙ ap numbers_of same) in
          let before = kept.lines-is in
          let few = kept.few in
          omega (arith, lines-same, before, few)

-- ---- a loop over numbers

flat_more : {A : Type 0} (f : ℕ → List A) (xs : List ℕ) (i : ℕ) → i < length xs → flat_map f (take i xs) ++ f (get_or xs i 0) ≡ flat_map f (take (i + 1) xs)
flat_more f xs i within =
    ap (λ list. flat_map f (take i xs) ++ list) (sym (append-nil (f (get_or xs i 0))))
    ∙ sym (flat_map-append f (take i xs) (get_or xs i 0 ∷ []))
    ∙ ap (flat_map f) (sym (take_more xs i 0 within))

module _ (f : ℕ → List (List ℕ)) (most : ℕ) (xs : List ℕ) (i : ℕ) (within : i < length xs) (old now new : List Cycle) (lines lines-now : ℕ)
    (so-far : Inserts most (flat_map f (take i xs)) old now lines true) where
  pub inserts_on : Inserts most (f (get_or xs i 0)) now new lines-now true → Inserts most (flat_map f (take (i + 1) xs)) old new lines-now true
  inserts_on next =
      subst (λ list. Inserts most list old new lines-now true) (flat_more f xs i within)
      (inserts_then most (flat_map f (take i xs)) (f (get_or xs i 0)) old now new lines lines-now true so-far next)

  pub inserts_end : Inserts most (f (get_or xs i 0)) now new lines-now false → Inserts most (flat_map f xs) old new lines-now false
  inserts_end next =
      subst (λ list. Inserts most list old new lines-now false)
      (ap (λ list. list ++ flat_map f (drop (i + 1) xs)) (flat_more f xs i within) ∙ sym (flat_map-append f (take (i + 1) xs) (drop (i + 1) xs)) ∙ ap (flat_map f) (take-append-drop (i + 1) xs))
      (inserts_stop most (flat_map f (take i xs) ++ f (get_or xs i 0)) (flat_map f (drop (i + 1) xs)) old new lines-now
      (inserts_then most (flat_map f (take i xs)) (f (get_or xs i 0)) old now new lines lines-now false so-far next) new lines-now)

-- ---- the answer

pub few_is : (most : ℕ) (more : List (List ℕ)) (new : List Cycle) (lines : ℕ) → Inserts most more [] new lines true → Some (numbers_of new) ≡ few_cycles most (inserted [] more)
few_is most more new lines kept =
    ap Some (kept.kept refl).0
    ∙ sym (ap (λ (b : Bool). if b then None else Some (inserted [] more)) (le-ltb most (line_count (inserted [] more)) (leb-true (line_count (inserted [] more)) most (sym kept.fits-is))))

pub few_none : (most : ℕ) (more : List (List ℕ)) (new : List Cycle) (lines : ℕ) → Inserts most more [] new lines false → (let none : Option (List (List ℕ)) = None in none ≡ few_cycles most (inserted [] more))
few_none most more new lines kept =
    sym (ap (λ (b : Bool). if b then None else Some (inserted [] more)) (lt-ltb most (line_count (inserted [] more)) (leb-false (line_count (inserted [] more)) most (sym kept.fits-is))))
