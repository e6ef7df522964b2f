-- The cycles of pairs are what they are called.
use Rattle.gp_serial.proofs.Prelude.{◌≡◌, cases_eq, none-some, same_Some, slice_get, some_none, unwrap_or, ◌<◌, ◌≤◌, ℕ, Bool, true, false, List, [], ◌∷◌, ◌++◌, length, filter, find, Option, Some, None, refl, sym, ap, ◌∙◌, subst, arith, inl, inr, ◌||◌, ◌==◌, if◌then◌else◌, AllByRecursion, eqb-true, list_any-append, flat_map, list_any, slice_cmp, option_map_or, ordering_then, Less, Equal, Greater, and_parts, cases_lt, false≢true, each_append}
use Rattle.std.proofs.Common.{◌⊎◌}
use Rattle.std.specs.BTreeSet.{insert_key}
use Rattle.std.specs.Cmp.{IsTotalOrder}
use Rattle.std.specs.List.{AllPairs}
use Rattle.std.specs.List.Sorted.{IsStrictlySortedBy}
use Rattle.std.specs.Ordering.{is_eq, is_le, match_ordering, nat_cmp, ordering_reverse}
use Rattle.std.specs.declared.cmp.Ordering.{Ordering}
use Rattle.std.proofs.lemmas.Bool.{and_from, or_cases, or_left, or_right}
use Rattle.std.proofs.lemmas.Cmp.{nat_cmp_total, nat_list_cmp_total, on_total, then_total, tied_itself}
use Rattle.std.proofs.lemmas.Map.Lookups.{exact_bytes}
use Rattle.gp_serial.specs.Graphs.{is_cycle, least_cycle, lists_of}
use Rattle.gp_serial.specs.LeastCycles.{IsCycleOf, IsLeastCycle}
use Rattle.gp_serial.specs.PairCycles.{cycle_cmp, cycle_through, cycles_back, goes_through, has_pair, inserted, lists_up, pair_cycles}
use Rattle.gp_serial.specs.PairLaws.{ArePairCycles, GoesBackIn, IsFirstThrough, IsOfPair, IsThrough}
use Rattle.gp_serial.proofs.CycleLemmas.{next_numbers, numbers_next}
use Rattle.gp_serial.proofs.LeastLemmas.{Among, Ascends, ascends, cmp_equal, cmp_less, least_is, each_from, each_in, find_each, find_passes, first_length, first_passes, from_in, in_from, is_in, itself_in, lists_are, none_passes}
use Rattle.gp_serial.proofs.PairLemmas.{lists_up_are, none_of_length}
use Rattle.gp_serial.proofs.PathLemmas.{filter_each, filter_in}

-- ---- an ordered set

cycle_total : IsTotalOrder cycle_cmp
cycle_total = then_total (on_total length nat_cmp_total) nat_list_cmp_total

each_insert : (P : List ℕ → Type 0) (cycles : List (List ℕ)) (cycle : List ℕ) → AllByRecursion P cycles → P cycle → AllByRecursion P (insert_key cycle_cmp cycles cycle)
each_insert P [] cycle each own = (own, tt)
each_insert P (other ∷ cycles) cycle (first, each) own = by (cycle_cmp cycle other) (each_insert P cycles cycle each own)
  where
    by : (o : Ordering) → AllByRecursion P (insert_key cycle_cmp cycles cycle) → AllByRecursion P (match_ordering o (cycle ∷ other ∷ cycles) (other ∷ cycles) (other ∷ insert_key cycle_cmp cycles cycle))
    by Less rest = (own, (first, each))
    by Equal rest = (first, each)
    by Greater rest = (first, rest)

each_inserted : (P : List ℕ → Type 0) (more cycles : List (List ℕ)) → AllByRecursion P cycles → AllByRecursion P more → AllByRecursion P (inserted cycles more)
each_inserted P [] cycles each own = each
each_inserted P (cycle ∷ more) cycles each (first, own) = each_inserted P more (insert_key cycle_cmp cycles cycle) (each_insert P cycles cycle each first) own

sorted_insert : (cycles : List (List ℕ)) (cycle : List ℕ) → IsStrictlySortedBy cycle_cmp cycles → IsStrictlySortedBy cycle_cmp (insert_key cycle_cmp cycles cycle)
unfolding IsStrictlySortedBy
sorted_insert [] cycle up = (tt, tt)
sorted_insert (other ∷ cycles) cycle (above, up) = by (cycle_cmp cycle other) refl (sorted_insert cycles cycle up)
  where
    all_above : (list : List (List ℕ)) → cycle_cmp cycle other ≡ Less → AllByRecursion (λ more. cycle_cmp other more ≡ Less) list → AllByRecursion (λ more. cycle_cmp cycle more ≡ Less) list
    all_above [] less each = tt
    all_above (more ∷ list) less (own, each) = (cycle_total.trans cycle other more less own, all_above list less each)

    by : (o : Ordering) → cycle_cmp cycle other ≡ o → IsStrictlySortedBy cycle_cmp (insert_key cycle_cmp cycles cycle)
        → IsStrictlySortedBy cycle_cmp (match_ordering o (cycle ∷ other ∷ cycles) (other ∷ cycles) (other ∷ insert_key cycle_cmp cycles cycle))
    by Less is rest = ((is, all_above cycles is above), (above, up))
    by Equal is rest = (above, up)
    by Greater is rest = (each_insert (λ more. cycle_cmp other more ≡ Less) cycles cycle above (cycle_total.antisymm other cycle ∙ ap ordering_reverse is), rest)

sorted_inserted : (more cycles : List (List ℕ)) → IsStrictlySortedBy cycle_cmp cycles → IsStrictlySortedBy cycle_cmp (inserted cycles more)
sorted_inserted [] cycles up = up
sorted_inserted (cycle ∷ more) cycles up = sorted_inserted more (insert_key cycle_cmp cycles cycle) (sorted_insert cycles cycle up)

-- what was there stays, and what is inserted is there
any_insert : (p : List ℕ → Bool) (cycles : List (List ℕ)) (cycle : List ℕ) → list_any p cycles ≡ true → list_any p (insert_key cycle_cmp cycles cycle) ≡ true
any_insert p [] cycle there = absurd (false≢true there)
any_insert p (other ∷ cycles) cycle there = by (cycle_cmp cycle other) (any_insert p cycles cycle) (or_cases (p other) (list_any p cycles) there)
  where
    by : (o : Ordering) → (list_any p cycles ≡ true → list_any p (insert_key cycle_cmp cycles cycle) ≡ true) → (p other ≡ true) ⊎ (list_any p cycles ≡ true)
        → list_any p (match_ordering o (cycle ∷ other ∷ cycles) (other ∷ cycles) (other ∷ insert_key cycle_cmp cycles cycle)) ≡ true
    by Less rest own = or_right (p cycle) (p other || list_any p cycles) there
    by Equal rest own = there
    by Greater rest (inl own) = or_left (p other) (list_any p (insert_key cycle_cmp cycles cycle)) own
    by Greater rest (inr more) = or_right (p other) (list_any p (insert_key cycle_cmp cycles cycle)) (rest more)

second_equal : (o p : Ordering) → ordering_then o p ≡ Equal → p ≡ Equal
second_equal Less p is = absurd cc
second_equal Equal p is = is
second_equal Greater p is = absurd cc

own_insert : (p : List ℕ → Bool) (cycles : List (List ℕ)) (cycle : List ℕ) → p cycle ≡ true → list_any p (insert_key cycle_cmp cycles cycle) ≡ true
own_insert p [] cycle own = or_left (p cycle) false own
own_insert p (other ∷ cycles) cycle own = by (cycle_cmp cycle other) refl (own_insert p cycles cycle own)
  where
    by : (o : Ordering) → cycle_cmp cycle other ≡ o → list_any p (insert_key cycle_cmp cycles cycle) ≡ true
        → list_any p (match_ordering o (cycle ∷ other ∷ cycles) (other ∷ cycles) (other ∷ insert_key cycle_cmp cycles cycle)) ≡ true
    by Less is rest = or_left (p cycle) (p other || list_any p cycles) own
    by Equal is rest = or_left (p other) (list_any p cycles) (ap p (sym (exact_bytes cycle other (second_equal (nat_cmp (length cycle) (length other)) (slice_cmp nat_cmp cycle other) is))) ∙ own)
    by Greater is rest = or_right (p other) (list_any p (insert_key cycle_cmp cycles cycle)) rest

any_stays : (p : List ℕ → Bool) (more cycles : List (List ℕ)) → list_any p cycles ≡ true → list_any p (inserted cycles more) ≡ true
any_stays p [] cycles there = there
any_stays p (cycle ∷ more) cycles there = any_stays p more (insert_key cycle_cmp cycles cycle) (any_insert p cycles cycle there)

any_inserted : (p : List ℕ → Bool) (more cycles : List (List ℕ)) → list_any p more ≡ true → list_any p (inserted cycles more) ≡ true
any_inserted p [] cycles there = absurd (false≢true there)
any_inserted p (cycle ∷ more) cycles there =
    by (or_cases (p cycle) (list_any p more) there) (any_inserted p more (insert_key cycle_cmp cycles cycle))
  where
    by : (p cycle ≡ true) ⊎ (list_any p more ≡ true) → (list_any p more ≡ true → list_any p (inserted (insert_key cycle_cmp cycles cycle) more) ≡ true)
        → list_any p (inserted (insert_key cycle_cmp cycles cycle) more) ≡ true
    by (inl own) rest = any_stays p more (insert_key cycle_cmp cycles cycle) (own_insert p cycles cycle own)
    by (inr later) rest = rest later

-- ---- the cycle of a pair

any_append : (p : List ℕ → Bool) (xs ys : List (List ℕ)) → (list_any p xs ≡ true) ⊎ (list_any p ys ≡ true) → list_any p (xs ++ ys) ≡ true
any_append p xs ys (inl left) = list_any-append p xs ys ∙ or_left (list_any p xs) (list_any p ys) left
any_append p xs ys (inr right) = list_any-append p xs ys ∙ or_right (list_any p xs) (list_any p ys) right

any_mapped : (p : List ℕ → Bool) (f : ℕ → List (List ℕ)) (t : ℕ) → list_any p (f t) ≡ true → (xs : List ℕ) → is_in xs t ≡ true → list_any p (flat_map f xs) ≡ true
any_mapped p f t own [] inside = absurd (false≢true inside)
any_mapped p f t own (x ∷ xs) inside = by (or_cases (x == t) (is_in xs t) inside) (any_mapped p f t own xs)
  where
    by : ((x == t) ≡ true) ⊎ (is_in xs t ≡ true) → (is_in xs t ≡ true → list_any p (flat_map f xs) ≡ true) → list_any p (f x ++ flat_map f xs) ≡ true
    by (inl at) rest = any_append p (f x) (flat_map f xs) (inl (ap (λ n. list_any p (f n)) (eqb-true x t at) ∙ own))
    by (inr behind) rest = any_append p (f x) (flat_map f xs) (inr (rest behind))

seconds : (P : ℕ → Type 0) (p : ℕ → Bool) (xs : List ℕ) → AllByRecursion (λ x. P x × (p x ≡ true)) xs → AllByRecursion (λ x. p x ≡ true) xs
seconds P p [] each = tt
seconds P p (x ∷ xs) (own, each) = (own.1, seconds P p xs each)

module _ (is_before : ℕ → ℕ → Bool) (all : List ℕ) (up : Ascends all) where
  among_in : (other : List ℕ) → IsCycleOf is_before all other → Among all other
  among_in other of = each_from (λ t. is_in all t ≡ true) other (λ t there. in_from all t (of.among t there))

  not_empty : (list : List ℕ) → is_cycle is_before list ≡ true → 0 < length list
  not_empty [] e = absurd (false≢true e)
  not_empty (a ∷ list) e = omega arith

  module _ (a b : ℕ) where
    passes : (other : List ℕ) → IsThrough is_before all a b other → goes_through is_before all a b other ≡ true
    passes other of = and_from (is_cycle is_before other) (has_pair a b other) of.own.closes of.pair

    by_lengths : (found : Option (List ℕ)) → cycle_through is_before all a b ≡ found → find (goes_through is_before all a b) (flat_map (λ n. lists_of n all) (next_numbers (length all) 0)) ≡ found
    by_lengths found is = ap (λ lengths. find (goes_through is_before all a b) (flat_map (λ n. lists_of n all) lengths)) (sym (numbers_next (length all))) ∙ is

    first_is : (cycle : List ℕ) → cycle_through is_before all a b ≡ Some cycle → IsFirstThrough is_before all a b cycle
    first_is cycle is =
        let least = first_length is_before all (goes_through is_before all a b) (length all) 0 cycle (by_lengths (Some cycle) is) in
        let n : ℕ = least.0 in
        let own = find_each (λ list. (length list ≡ n) × Among all list) (goes_through is_before all a b) (lists_of n all) cycle (lists_are all n) least.1.is in
        let pass = and_parts (is_cycle is_before cycle) (has_pair a b cycle) (find_passes (goes_through is_before all a b) (lists_of n all) cycle least.1.is) in
        record {
          through = record {
            own = record { closes = pass.0; among = λ t there. from_in all t (each_in (λ m. is_in all m ≡ true) cycle own.1 t there) };
            pair = pass.1;
          };
          shortest = λ other of. elim (cases_lt (length other) n) [
            | inl less ↦
                absurd (false≢true (sym (none_passes all (length other) (goes_through is_before all a b) (least.1.before (length other) (not_empty other of.own.closes) less) other refl (among_in other of.own))
                ∙ passes other of))
            | inr above ↦ (let count = own.0 in omega (arith, above, count))
          ];
          first = λ other of long. first_passes all up n (goes_through is_before all a b) cycle least.1.is other (long ∙ own.0) (among_in other of.own) (passes other of);
        }

    there_is : (other : List ℕ) → IsThrough is_before all a b other → length other ≤ length all → cycle_through is_before all a b ≡ None → ⊥
    there_is other of few is =
        false≢true (sym (none_passes all (length other) (goes_through is_before all a b)
        (none_of_length is_before all (goes_through is_before all a b) (length all) 0 (by_lengths None is) (length other) (not_empty other of.own.closes) (omega (arith, few)))
        other refl (among_in other of.own)) ∙ passes other of)

    -- the cycle that is told has the pair
    told : (other : List ℕ) → IsThrough is_before all a b other → length other ≤ length all
        → list_any (has_pair a b) (option_map_or (λ (cycle : List ℕ). cycle ∷ []) (cycle_through is_before all a b) []) ≡ true
    told other of few = by (cycle_through is_before all a b) refl
      where
        by : (found : Option (List ℕ)) → cycle_through is_before all a b ≡ found → list_any (has_pair a b) (option_map_or (λ (cycle : List ℕ). cycle ∷ []) found []) ≡ true
        by None is = absurd (there_is other of few is)
        by (Some cycle) is = or_left (has_pair a b cycle) false (first_is cycle is).through.pair

  module _ (goes_back : ℕ → ℕ → Bool) where
    each_back : (a : ℕ) (bs : List ℕ) → AllByRecursion (λ b. goes_back a b ≡ true) bs
        → AllByRecursion (IsOfPair is_before all goes_back) (flat_map (λ b. option_map_or (λ (cycle : List ℕ). cycle ∷ []) (cycle_through is_before all a b) []) bs)
    each_back a [] each = tt
    each_back a (b ∷ bs) (back, each) =
        each_append (IsOfPair is_before all goes_back) (option_map_or (λ (cycle : List ℕ). cycle ∷ []) (cycle_through is_before all a b) [])
        (flat_map (λ b. option_map_or (λ (cycle : List ℕ). cycle ∷ []) (cycle_through is_before all a b) []) bs)
        (by (cycle_through is_before all a b) refl) (each_back a bs each)
      where
        by : (found : Option (List ℕ)) → cycle_through is_before all a b ≡ found → AllByRecursion (IsOfPair is_before all goes_back) (option_map_or (λ (cycle : List ℕ). cycle ∷ []) found [])
        by None is = tt
        by (Some cycle) is = (record { a = a; b = b; back = back; first = first_is a b cycle is }, tt)

    each_all : (list : List ℕ) → AllByRecursion (IsOfPair is_before all goes_back) (flat_map (cycles_back is_before all goes_back) list)
    each_all [] = tt
    each_all (a ∷ list) =
        each_append (IsOfPair is_before all goes_back) (cycles_back is_before all goes_back a) (flat_map (cycles_back is_before all goes_back) list)
        (each_back a (filter (goes_back a) all) (seconds (λ t. is_in all t ≡ true) (goes_back a) (filter (goes_back a) all) (filter_each (λ t. is_in all t ≡ true) (goes_back a) all (itself_in all)))) (each_all list)

pub pairs_are : (is_before goes_back : ℕ → ℕ → Bool) (all : List ℕ) → AllPairs (λ a b. a < b) all → ArePairCycles is_before all goes_back (pair_cycles is_before all goes_back)
unfolding IsStrictlySortedBy
pairs_are is_before goes_back all up = record {
  each = each_inserted (IsOfPair is_before all goes_back) (flat_map (cycles_back is_before all goes_back) all) [] tt (each_all is_before all (ascends all up) goes_back all);
  whole = λ a b a-there b-there back other of few.
      any_inserted (has_pair a b) (flat_map (cycles_back is_before all goes_back) all) []
      (any_mapped (has_pair a b) (cycles_back is_before all goes_back) a
      (any_mapped (has_pair a b) (λ n. option_map_or (λ (cycle : List ℕ). cycle ∷ []) (cycle_through is_before all a n) []) b (told is_before all (ascends all up) a b other of few)
      (filter (goes_back a) all) (filter_in (goes_back a) b back all (in_from all b b-there)))
      all (in_from all a a-there));
  order = sorted_inserted (flat_map (cycles_back is_before all goes_back) all) [] tt;
}

-- ---- the first of them

find_narrow : {A : Type 0} (p q : A → Bool) → ((x : A) → q x ≡ true → p x ≡ true) → (xs : List A) (x : A) → find p xs ≡ Some x → q x ≡ true → find q xs ≡ Some x
find_narrow p q narrow [] x is own = absurd (none-some x is)
find_narrow {A} p q narrow (y ∷ xs) x is own = by (p y) (q y) refl refl is (find_narrow p q narrow xs x)
  where
    by : (b c : Bool) → p y ≡ b → q y ≡ c → (if b then Some y else find p xs) ≡ Some x → (find p xs ≡ Some x → q x ≡ true → find q xs ≡ Some x)
        → (if c then Some y else find q xs) ≡ Some x
    by true true one two is rest = is
    by true false one two is rest = absurd (false≢true (sym two ∙ ap q (same_Some y x is) ∙ own))
    by false true one two is rest = absurd (false≢true (sym one ∙ narrow y two))
    by false false one two is rest = rest is own

find_none : {A : Type 0} (p q : A → Bool) → ((x : A) → q x ≡ true → p x ≡ true) → (xs : List A) → find p xs ≡ None → find q xs ≡ None
find_none p q narrow [] is = refl
find_none {A} p q narrow (y ∷ xs) is = by (p y) (q y) refl refl is (find_none p q narrow xs)
  where
    by : (b c : Bool) → p y ≡ b → q y ≡ c → (if b then Some y else find p xs) ≡ None → (find p xs ≡ None → find q xs ≡ None) → (if c then Some y else find q xs) ≡ None
    by true c one two is rest = absurd (some_none y is)
    by false true one two is rest = absurd (false≢true (sym one ∙ narrow y two))
    by false false one two is rest = rest is

-- of an ordered list that has it, one that comes behind none of them is the first
first_least : (cycle : List ℕ) (cycles : List (List ℕ)) → IsStrictlySortedBy cycle_cmp cycles → AllByRecursion (λ other. is_le (cycle_cmp cycle other) ≡ true) cycles
    → list_any (λ other. is_eq (cycle_cmp cycle other)) cycles ≡ true → slice_get cycles 0 ≡ Some cycle
unfolding IsStrictlySortedBy
first_least cycle [] up each there = absurd (false≢true there)
first_least cycle (other ∷ cycles) (above, up) (le, each) there = by (cycle_cmp cycle other) refl le
  where
    later : (list : List (List ℕ)) → AllByRecursion (λ more. cycle_cmp other more ≡ Less) list → cycle_cmp cycle other ≡ Less → list_any (λ more. is_eq (cycle_cmp cycle more)) list ≡ false
    later [] each less = refl
    later (more ∷ list) (own, each) less = λ i. is_eq (cycle_total.trans cycle other more less own i) || later list each less i

    by : (o : Ordering) → cycle_cmp cycle other ≡ o → is_le o ≡ true → Some other ≡ Some cycle
    by Less is le = absurd (false≢true (sym (λ i. is_eq (is i) || later cycles above is i) ∙ there))
    by Equal is le = ap Some (sym (exact_bytes cycle other (second_equal (nat_cmp (length cycle) (length other)) (slice_cmp nat_cmp cycle other) is)))
    by Greater is le = absurd (false≢true le)

each_le : (is_before goes_back : ℕ → ℕ → Bool) (all cycle : List ℕ) → IsLeastCycle is_before all cycle → (cycles : List (List ℕ)) → AllByRecursion (IsOfPair is_before all goes_back) cycles
    → AllByRecursion (λ other. is_le (cycle_cmp cycle other) ≡ true) cycles
each_le is_before goes_back all cycle least [] each = tt
each_le is_before goes_back all cycle least (other ∷ cycles) (own, each) = (
  elim (cases_eq (length cycle) (length other)) [
    | inl same ↦
        ap (λ o. is_le (ordering_then o (slice_cmp nat_cmp cycle other))) (cmp_equal (length cycle) (length other) same) ∙ least.first other own.first.through.own (sym same)
    | inr differ ↦
        (let low = least.shortest other own.first.through.own in
        ap (λ o. is_le (ordering_then o (slice_cmp nat_cmp cycle other))) (cmp_less (length cycle) (length other) (omega (arith, low, differ))))
  ],
  each_le is_before goes_back all cycle least cycles each,
)

module _ (is_before goes_back : ℕ → ℕ → Bool) (all : List ℕ) (up : AllPairs (λ a b. a < b) all) (back : (other : List ℕ) → IsCycleOf is_before all other → GoesBackIn goes_back all other) where
  narrow : (a b : ℕ) (list : List ℕ) → goes_through is_before all a b list ≡ true → is_cycle is_before list ≡ true
  narrow a b list own = (and_parts (is_cycle is_before list) (has_pair a b list) own).0

  -- where there is none at all
  none_back : find (is_cycle is_before) (lists_up all) ≡ None → (list : List ℕ) → flat_map (cycles_back is_before all goes_back) list ≡ []
  none_back none [] = refl
  none_back none (a ∷ list) = λ i. each (filter (goes_back a) all) i ++ none_back none list i
    where
      each : (bs : List ℕ) → flat_map (λ b. option_map_or (λ (cycle : List ℕ). cycle ∷ []) (cycle_through is_before all a b) []) bs ≡ []
      each [] = refl
      each (b ∷ bs) =
          λ i. option_map_or (λ (cycle : List ℕ). cycle ∷ []) (find_none (is_cycle is_before) (goes_through is_before all a b) (narrow a b) (lists_up all) none i) [] ++ each bs i

  first_some : (cycle : List ℕ) → find (is_cycle is_before) (lists_up all) ≡ Some cycle → slice_get (pair_cycles is_before all goes_back) 0 ≡ Some cycle
  first_some cycle is =
      let closes = find_passes (is_cycle is_before) (lists_up all) cycle is in
      let among = (find_each (λ list. (length list ≤ length all) × Among all list) (is_cycle is_before) (lists_up all) cycle (lists_up_are is_before all) is).1 in
      let of : IsCycleOf is_before all cycle = record { closes = closes; among = λ t there. from_in all t (each_in (λ n. is_in all n ≡ true) cycle among t there) } in
      let pair = back cycle of in
      let a : ℕ = pair.a in
      let b : ℕ = pair.b in
      let through : cycle_through is_before all a b ≡ Some cycle =
      find_narrow (is_cycle is_before) (goes_through is_before all a b) (narrow a b) (lists_up all) cycle is (and_from (is_cycle is_before cycle) (has_pair a b cycle) closes pair.pair) in
      let same : list_any (λ other. is_eq (cycle_cmp cycle other)) (cycle ∷ []) ≡ true = or_left (is_eq (cycle_cmp cycle cycle)) false (ap is_eq (tied_itself cycle_total cycle)) in
      first_least cycle (pair_cycles is_before all goes_back) (pairs_are is_before goes_back all up).order
      (each_le is_before goes_back all cycle (least cycle is) (pair_cycles is_before all goes_back) (pairs_are is_before goes_back all up).each)
      (any_inserted (λ other. is_eq (cycle_cmp cycle other)) (flat_map (cycles_back is_before all goes_back) all) []
      (any_mapped (λ other. is_eq (cycle_cmp cycle other)) (cycles_back is_before all goes_back) a
      (any_mapped (λ other. is_eq (cycle_cmp cycle other)) (λ n. option_map_or (λ (list : List ℕ). list ∷ []) (cycle_through is_before all a n) []) b
      (ap (λ (found : Option (List ℕ)). list_any (λ other. is_eq (cycle_cmp cycle other)) (option_map_or (λ (list : List ℕ). list ∷ []) found [])) through ∙ same)
      (filter (goes_back a) all) (filter_in (goes_back a) b pair.back all (in_from all b pair.b-among)))
      all (in_from all a pair.a-among)))
    where
      least : (cycle : List ℕ) → find (is_cycle is_before) (lists_up all) ≡ Some cycle → IsLeastCycle is_before all cycle
      least cycle is =
          subst (IsLeastCycle is_before all) (ap (λ (found : Option (List ℕ)). unwrap_or found []) is)
          (least_is is_before all up (λ none. filled cycle (find_passes (is_cycle is_before) (lists_up all) cycle is) (sym (ap (λ (found : Option (List ℕ)). unwrap_or found []) is) ∙ none)))
        where
          filled : (list : List ℕ) → is_cycle is_before list ≡ true → list ≡ [] → ⊥
          filled list closes none = false≢true (ap (is_cycle is_before) (sym none) ∙ closes)

  -- the first one is the least cycle, and there is none where there is none
  pub least_first : least_cycle is_before all ≡ unwrap_or (slice_get (pair_cycles is_before all goes_back) 0) []
  least_first = by (find (is_cycle is_before) (lists_up all)) refl
    where
      by : (found : Option (List ℕ)) → find (is_cycle is_before) (lists_up all) ≡ found → unwrap_or found [] ≡ unwrap_or (slice_get (pair_cycles is_before all goes_back) 0) []
      by None is = ap (λ list. unwrap_or (slice_get (inserted [] list) 0) []) (sym (none_back is all))
      by (Some cycle) is = ap (λ (found : Option (List ℕ)). unwrap_or found []) (sym (first_some cycle is))
