-- The cycle that is joined of the first of the shortest paths is the first of the shortest cycles through a pair.
use Rattle.gp_serial.proofs.Prelude.{◌≡◌, ◌+◌, ◌-◌, ◌<◌, ◌≤◌, ℕ, zero, suc, Bool, true, false, List, [], ◌∷◌, ◌++◌, length, length-append, drop, get_or, filter, Option, Some, None, refl, sym, ap, ◌∙◌, subst, arith, inl, inr, ◌==◌, ◌&&◌, if◌then◌else◌, find, slice_cmp, AllByRecursion, flat_map, list_any, option_map_or, ordering_then, and_parts, cases_eq, cases_lt, eq-eqb, eqb-true, false≢true, append-nil, append_assoc, find-append, each_append, none_parts}
use Rattle.std.proofs.Common.{◌⊎◌}
use Rattle.std.specs.Ordering.{is_le, nat_cmp}
use Rattle.std.proofs.lemmas.Bool.{and_from, cases_order, or_cases, or_left, or_right}
use Rattle.std.proofs.lemmas.List.{take_at}
use Rattle.gp_serial.specs.Graphs.{closes, lists_of}
use Rattle.gp_serial.specs.PairCycles.{cycle_through, goes_through, has_pair, is_pair, lists_up, pairs_to}
use Rattle.gp_serial.specs.PathForms.{after, before, cycle_by, down, has_steps, joined, steps_at, paths_to, without_last}
use Rattle.gp_serial.specs.declared.pair_cycle.Path.{Path}
use Rattle.gp_serial.proofs.CycleLemmas.{next_numbers, numbers_next}
use Rattle.gp_serial.proofs.LeastLemmas.{Among, Ascends, above_in, cmp_equal, cmp_greater, cmp_less, find_each, find_passes, first_length, first_passes, is_in, lists_are, none_passes}
use Rattle.gp_serial.proofs.PathLemmas.{AtSteps, IsPath, Known, Walk, first_step, goes, goes_on, walk_on, walk_step, paths_known}

-- ---- lists in order

le_parts : (x y : ℕ) (xs ys : List ℕ) → is_le (slice_cmp nat_cmp (x ∷ xs) (y ∷ ys)) ≡ true → (x < y) ⊎ ((x ≡ y) × (is_le (slice_cmp nat_cmp xs ys) ≡ true))
le_parts x y xs ys le = elim (cases_order x y) [
  | inl same ↦ inr (same, ap (λ o. is_le (ordering_then o (slice_cmp nat_cmp xs ys))) (sym (cmp_equal x y same)) ∙ le)
  | inr (inl less) ↦ inl less
  | inr (inr more) ↦ absurd (false≢true (ap (λ o. is_le (ordering_then o (slice_cmp nat_cmp xs ys))) (sym (cmp_greater x y more)) ∙ le))
]

le_less : (x y : ℕ) (xs ys : List ℕ) → x < y → is_le (slice_cmp nat_cmp (x ∷ xs) (y ∷ ys)) ≡ true
le_less x y xs ys less = ap (λ o. is_le (ordering_then o (slice_cmp nat_cmp xs ys))) (cmp_less x y less)

le_same : (x y : ℕ) (xs ys : List ℕ) → x ≡ y → is_le (slice_cmp nat_cmp xs ys) ≡ true → is_le (slice_cmp nat_cmp (x ∷ xs) (y ∷ ys)) ≡ true
le_same x y xs ys same le = ap (λ o. is_le (ordering_then o (slice_cmp nat_cmp xs ys))) (cmp_equal x y same) ∙ le

le_both : (xs ys : List ℕ) → length xs ≡ length ys → is_le (slice_cmp nat_cmp xs ys) ≡ true → is_le (slice_cmp nat_cmp ys xs) ≡ true → xs ≡ ys
le_both [] [] long one two = refl
le_both [] (y ∷ ys) long one two = absurd (omega (arith, long))
le_both (x ∷ xs) [] long one two = absurd (omega (arith, long))
le_both (x ∷ xs) (y ∷ ys) long one two = by (le_both xs ys (omega (arith, long))) (le_parts x y xs ys one) (le_parts y x ys xs two)
  where
    by : (is_le (slice_cmp nat_cmp xs ys) ≡ true → is_le (slice_cmp nat_cmp ys xs) ≡ true → xs ≡ ys)
        → (x < y) ⊎ ((x ≡ y) × (is_le (slice_cmp nat_cmp xs ys) ≡ true)) → (y < x) ⊎ ((y ≡ x) × (is_le (slice_cmp nat_cmp ys xs) ≡ true)) → x ∷ xs ≡ y ∷ ys
    by rest (inl less) (inl more) = absurd (omega (arith, less, more))
    by rest (inl less) (inr same) = (let is = same.0 in absurd (omega (arith, less, is)))
    by rest (inr same) (inl more) = (let is = same.0 in absurd (omega (arith, more, is)))
    by rest (inr same) (inr other) = λ i. same.0 i ∷ rest same.1 other.1 i

le_append : (xs ys us vs : List ℕ) → length xs ≡ length ys → is_le (slice_cmp nat_cmp xs ys) ≡ true → is_le (slice_cmp nat_cmp us vs) ≡ true
    → is_le (slice_cmp nat_cmp (xs ++ us) (ys ++ vs)) ≡ true
le_append [] [] us vs long one two = two
le_append [] (y ∷ ys) us vs long one two = absurd (omega (arith, long))
le_append (x ∷ xs) [] us vs long one two = absurd (omega (arith, long))
le_append (x ∷ xs) (y ∷ ys) us vs long one two = elim (le_parts x y xs ys one) [
  | inl less ↦ le_less x y (xs ++ us) (ys ++ vs) less
  | inr same ↦ le_same x y (xs ++ us) (ys ++ vs) same.0 (le_append xs ys us vs (omega (arith, long)) same.1 two)
]

le_front : (l : ℕ) (xs ys : List ℕ) → length xs ≡ length ys → is_le (slice_cmp nat_cmp (xs ++ l ∷ []) (ys ++ l ∷ [])) ≡ true → is_le (slice_cmp nat_cmp xs ys) ≡ true
le_front l [] [] long le = refl
le_front l [] (y ∷ ys) long le = absurd (omega (arith, long))
le_front l (x ∷ xs) [] long le = absurd (omega (arith, long))
le_front l (x ∷ xs) (y ∷ ys) long le = elim (le_parts x y (xs ++ l ∷ []) (ys ++ l ∷ []) le) [
  | inl less ↦ le_less x y xs ys less
  | inr same ↦ le_same x y xs ys same.0 (le_front l xs ys (omega (arith, long)) same.1)
]

each_front : (P : ℕ → Type 0) (xs ys : List ℕ) → AllByRecursion P (xs ++ ys) → AllByRecursion P xs
each_front P [] ys each = tt
each_front P (x ∷ xs) ys each = (each.0, each_front P xs ys each.1)

each_behind : (P : ℕ → Type 0) (xs ys : List ℕ) → AllByRecursion P (xs ++ ys) → AllByRecursion P ys
each_behind P [] ys each = each
each_behind P (x ∷ xs) ys each = each_behind P xs ys each.1

-- ---- the first that passes, of those that were kept

record IsFirst (q test : ℕ → Bool) (xs : List ℕ) (t : ℕ) : Type 0 where
  is : find test (filter q xs) ≡ Some t
  inside : is_in xs t ≡ true
  kept : q t ≡ true
  passes : test t ≡ true
  least : (z : ℕ) → is_in xs z ≡ true → q z ≡ true → test z ≡ true → t ≤ z

is_first : (q test : ℕ → Bool) (xs : List ℕ) → Ascends xs → (x : ℕ) → is_in xs x ≡ true → q x ≡ true → test x ≡ true → (t : ℕ) × IsFirst q test xs t
is_first q test [] up x inside kept passes = absurd (false≢true inside)
is_first q test (y ∷ xs) (above, up) x inside kept passes = by (q y) (test y) refl refl (is_first q test xs up x)
  where
    behind : (b : Bool) → (q y && test y) ≡ b → b ≡ false → is_in xs x ≡ true
    behind b is none = elim (or_cases (y == x) (is_in xs x) inside) [
      | inl at ↦ absurd (false≢true (sym none ∙ sym is ∙ ap (λ n. q n && test n) (eqb-true y x at) ∙ and_from (q x) (test x) kept passes))
      | inr there ↦ there
    ]

    later : (t : ℕ) → find test (if q y then y ∷ filter q xs else filter q xs) ≡ find test (filter q xs) → ((q y && test y) ≡ false) → IsFirst q test xs t → IsFirst q test (y ∷ xs) t
    later t same none first = record {
      is = same ∙ first.is;
      inside = or_right (y == t) (is_in xs t) first.inside;
      kept = first.kept;
      passes = first.passes;
      least = λ z there own pass. elim (or_cases (y == z) (is_in xs z) there) [
        | inl at ↦ absurd (false≢true (sym none ∙ ap (λ n. q n && test n) (eqb-true y z at) ∙ and_from (q z) (test z) own pass))
        | inr more ↦ first.least z more own pass
      ];
    }

    by : (b c : Bool) → q y ≡ b → test y ≡ c → (is_in xs x ≡ true → q x ≡ true → test x ≡ true → (t : ℕ) × IsFirst q test xs t) → (t : ℕ) × IsFirst q test (y ∷ xs) t
    by true true here pass rest = (
      y,
      record {
        is = (λ i. find test (if here i then y ∷ filter q xs else filter q xs)) ∙ ap (λ b. if b then Some y else find test (filter q xs)) pass;
        inside = or_left (y == y) (is_in xs y) (eq-eqb y y refl);
        kept = here;
        passes = pass;
        least = λ z there own z-pass. elim (or_cases (y == z) (is_in xs z) there) [
          | inl at ↦ (let same = eqb-true y z at in omega (arith, same))
          | inr more ↦ (let less = above_in y z xs above more in omega (arith, less))
        ];
      },
    )
    by true false here pass rest =
        let none : (q y && test y) ≡ false = λ i. here i && pass i in
        let found = rest (behind false none refl) kept passes in
        (found.0, later found.0 ((λ i. find test (if here i then y ∷ filter q xs else filter q xs)) ∙ ap (λ b. if b then Some y else find test (filter q xs)) pass) none found.1)
    by false c here pass rest =
        let none : (q y && test y) ≡ false = ap (λ b. b && test y) here in
        let found = rest (behind false none refl) kept passes in
        (found.0, later found.0 (ap (λ b. find test (if b then y ∷ filter q xs else filter q xs)) here) none found.1)

-- ---- one step down the paths

pub down_goes : (to : ℕ → List ℕ) (paths : List (Option Path)) (left steps from next : ℕ) (cycle : List ℕ) → left ≡ suc steps
    → find (λ t. has_steps steps (get_or paths t None)) (to from) ≡ Some next → (cycle ++ next ∷ []) ++ down to paths steps next ≡ cycle ++ down to paths left from
down_goes to paths left steps from next cycle one is =
    append_assoc cycle (next ∷ []) (down to paths steps next)
    ∙ ap (λ (own : Option ℕ). cycle ++ option_map_or (λ (t : ℕ). t ∷ down to paths steps t) own []) (sym is)
    ∙ ap (λ n. cycle ++ down to paths n from) (sym one)

pub down_stops : (to : ℕ → List ℕ) (paths : List (Option Path)) (left steps from : ℕ) (cycle : List ℕ) → left ≡ suc steps
    → find (λ t. has_steps steps (get_or paths t None)) (to from) ≡ None → cycle ≡ cycle ++ down to paths left from
down_stops to paths left steps from cycle one is =
    sym (append-nil cycle)
    ∙ ap (λ (own : Option ℕ). cycle ++ option_map_or (λ (t : ℕ). t ∷ down to paths steps t) own []) (sym is)
    ∙ ap (λ n. cycle ++ down to paths n from) (sym one)

module _ (is_before : ℕ → ℕ → Bool) (all : List ℕ) where
  -- ---- the first of the shortest paths

  pub record IsFirstPath (to steps from : ℕ) (numbers : List ℕ) : Type 0 where
    walk : Walk is_before all to steps from
    same : walk.numbers ≡ numbers
    least : (other : List ℕ) → goes is_before from other to ≡ true → length other ≡ steps → Among all other → is_le (slice_cmp nat_cmp numbers other) ≡ true

  -- the number of steps, by what is known
  steps_known : (to most k t : ℕ) → k ≤ most → AtSteps is_before all to k t → (path : Option Path) → Known is_before all to most t path → has_steps k path ≡ true
  steps_known to most k t low at None none = absurd (none k low at.walk)
  steps_known to most k t low at (Some path) known =
      let less = known.1.shortest k at.walk in
      let more = at.none path.steps known.1.own in
      eq-eqb path.steps k (let same : path.steps ≡ k = omega (arith, less, more) in same)

  known_steps : (to most k t : ℕ) → is_in all t ≡ true → (path : Option Path) → Known is_before all to most t path → has_steps k path ≡ true → AtSteps is_before all to k t
  known_steps to most k t inside None none has = absurd (false≢true has)
  known_steps to most k t inside (Some path) known has =
      let same : path.steps ≡ k = eqb-true path.steps k has in
      record {
        inside = inside;
        walk = subst (λ n. Walk is_before all to n t) same known.1.own;
        none = λ j walk. subst (λ n. n ≤ j) same (known.1.shortest j walk);
      }

  at_is : (to most k t : ℕ) → k ≤ most → AtSteps is_before all to k t → (paths : List (Option Path)) → Known is_before all to most t (get_or paths t None) → steps_at t paths ≡ k
  at_is to most k t low at paths known = by (get_or paths t None) (steps_known to most k t low at (get_or paths t None) known)
    where
      by : (path : Option Path) → has_steps k path ≡ true → option_map_or (λ (own : Path). own.steps) path 0 ≡ k
      by None has = absurd (false≢true has)
      by (Some path) has = eqb-true path.steps k has

  module _ (up : Ascends all) (list : ℕ → List ℕ) (lists : (t : ℕ) → is_in all t ≡ true → list t ≡ after is_before all t) (to most : ℕ) (paths : List (Option Path))
      (known : (t : ℕ) → is_in all t ≡ true → Known is_before all to most t (get_or paths t None)) where
    down_first : (k from : ℕ) → k ≤ most → AtSteps is_before all to k from → IsFirstPath to k from (down list paths k from)
    down_first zero from low at = record {
      walk = at.walk;
      same = none at.walk.numbers at.walk.count;
      least = λ other goes count among. none_le other count;
    }
      where
        none : (numbers : List ℕ) → length numbers ≡ 0 → numbers ≡ []
        none [] count = refl
        none (t ∷ others) count = absurd (omega (arith, count))

        none_le : (other : List ℕ) → length other ≡ 0 → is_le (slice_cmp nat_cmp [] other) ≡ true
        none_le [] count = refl
        none_le (t ∷ others) count = refl
    down_first (suc k) from low at =
        let less : k ≤ most = omega (arith, low) in
        let step = first_step is_before all to k from at.walk in
        let found = is_first (is_before from) (λ t. has_steps k (get_or paths t None)) all up step.t step.inside step.edge (passes less step.t step.inside step.edge step.rest) in
        let t : ℕ = found.0 in
        let first = found.1 in
        let next = known_steps to most k t first.inside (get_or paths t None) (known t first.inside) first.passes in
        let rest = down_first k t less next in
        let is : down list paths (suc k) from ≡ t ∷ down list paths k t =
        ap (λ (own : Option ℕ). option_map_or (λ (n : ℕ). n ∷ down list paths k n) own []) (ap (find (λ n. has_steps k (get_or paths n None))) (lists from at.inside) ∙ first.is) in
        subst (IsFirstPath to (suc k) from) (sym is) (record {
          walk = record {
            numbers = t ∷ rest.walk.numbers;
            leads = and_from (is_before from t) (goes is_before t rest.walk.numbers to) first.kept rest.walk.leads;
            count = ap suc rest.walk.count;
            among = (first.inside, rest.walk.among);
          };
          same = ap (λ numbers. t ∷ numbers) rest.same;
          least = λ other own count among. least less t (down list paths k t) first.least rest.least other own count among;
        })
      where
        step_at : (x : ℕ) → is_in all x ≡ true → is_before from x ≡ true → Walk is_before all to k x → AtSteps is_before all to k x
        step_at x inside edge walk = record {
          inside = inside;
          walk = walk;
          none = λ j other. (let more = at.none (suc j) (walk_step is_before all to j from x inside edge other) in omega (arith, more));
        }

        passes : k ≤ most → (x : ℕ) → is_in all x ≡ true → is_before from x ≡ true → Walk is_before all to k x → has_steps k (get_or paths x None) ≡ true
        passes less x inside edge walk = steps_known to most k x less (step_at x inside edge walk) (get_or paths x None) (known x inside)

        least : k ≤ most → (t : ℕ) (rest : List ℕ) → ((z : ℕ) → is_in all z ≡ true → is_before from z ≡ true → has_steps k (get_or paths z None) ≡ true → t ≤ z)
            → ((other : List ℕ) → goes is_before t other to ≡ true → length other ≡ k → Among all other → is_le (slice_cmp nat_cmp rest other) ≡ true)
            → (other : List ℕ) → goes is_before from other to ≡ true → length other ≡ suc k → Among all other → is_le (slice_cmp nat_cmp (t ∷ rest) other) ≡ true
        least less t rest first later [] own count among = absurd (omega (arith, count))
        least less t rest first later (z ∷ zs) own count (inside, among) =
            let parts = and_parts (is_before from z) (goes is_before z zs to) own in
            let short : length zs ≡ k = omega (arith, count) in
            let low : t ≤ z = first z inside parts.0 (passes less z inside parts.0 (record { numbers = zs; leads = parts.1; count = short; among = among })) in
            elim (cases_eq t z) [
              | inl same ↦ le_same t z rest zs same (later zs (subst (λ n. goes is_before n zs to ≡ true) (sym same) parts.1) short among)
              | inr other ↦ le_less t z rest zs (omega (arith, low, other))
            ]

  -- ---- a cycle, cut behind a

  closes_is : (first x : ℕ) (xs : List ℕ) → closes is_before first (x ∷ xs) ≡ goes is_before x (xs ++ first ∷ []) first
  closes_is first x [] = by (is_before x first) ∙ ap (λ b. is_before x first && b) (sym (eq-eqb first first refl))
    where
      by : (b : Bool) → b ≡ (b && true)
      by true = refl
      by false = refl
  closes_is first x (y ∷ ys) = ap (λ b. is_before x y && b) (closes_is first y ys)

  -- from its number x on: behind it the paths to a and, from b, to the first
  record IsCut (a b first x : ℕ) (xs : List ℕ) : Type 0 where
    to_a : List ℕ
    back : List ℕ
    is : xs ++ first ∷ [] ≡ to_a ++ b ∷ back
    there : goes is_before x to_a a ≡ true
    edge : is_before a b ≡ true
    home : goes is_before b back first ≡ true

  cut : (a b first x : ℕ) (xs : List ℕ) → closes is_before first (x ∷ xs) ≡ true → list_any (is_pair a b) (pairs_to first (x ∷ xs)) ≡ true → IsCut a b first x xs
  cut a b first x [] closed has = elim (or_cases (is_pair a b (x, first)) false has) [
    | inl own ↦
        let parts = and_parts (x == a) (first == b) own in
        let one : x ≡ a = eqb-true x a parts.0 in
        let two : first ≡ b = eqb-true first b parts.1 in
        record {
          to_a = [];
          back = [];
          is = ap (λ n. n ∷ []) two;
          there = parts.0;
          edge = (λ i. is_before (sym one i) (sym two i)) ∙ closed;
          home = eq-eqb b first (sym two);
        }
    | inr none ↦ absurd (false≢true none)
  ]
  cut a b first x (y ∷ ys) closed has = elim (or_cases (is_pair a b (x, y)) (list_any (is_pair a b) (pairs_to first (y ∷ ys))) has) [
    | inl own ↦
        let parts = and_parts (x == a) (y == b) own in
        let one : x ≡ a = eqb-true x a parts.0 in
        let two : y ≡ b = eqb-true y b parts.1 in
        let both = and_parts (is_before x y) (closes is_before first (y ∷ ys)) closed in
        record {
          to_a = [];
          back = ys ++ first ∷ [];
          is = ap (λ n. n ∷ (ys ++ first ∷ [])) two;
          there = parts.0;
          edge = (λ i. is_before (sym one i) (sym two i)) ∙ both.0;
          home = ap (λ n. goes is_before n (ys ++ first ∷ []) first) (sym two) ∙ sym (closes_is first y ys) ∙ both.1;
        }
    | inr later ↦
        let both = and_parts (is_before x y) (closes is_before first (y ∷ ys)) closed in
        let rest = cut a b first y ys both.1 later in
        record {
          to_a = y ∷ rest.to_a;
          back = rest.back;
          is = ap (λ list. y ∷ list) rest.is;
          there = and_from (is_before x y) (goes is_before y rest.to_a a) both.0 rest.there;
          edge = rest.edge;
          home = rest.home;
        }
  ]

  tail_is : {A : Type 0} (x y : A) (xs ys : List A) → x ∷ xs ≡ y ∷ ys → xs ≡ ys
  tail_is x y xs ys e = ap (λ list. drop 1 list) e

  head_is : (x y : ℕ) (xs ys : List ℕ) → x ∷ xs ≡ y ∷ ys → x ≡ y
  head_is x y xs ys e = ap (λ list. get_or list 0 0) e

  -- and the path back: it has the pair
  uncut : (a b first x : ℕ) (xs to_a back : List ℕ) → xs ++ first ∷ [] ≡ to_a ++ b ∷ back → goes is_before x to_a a ≡ true → list_any (is_pair a b) (pairs_to first (x ∷ xs)) ≡ true
  uncut a b first x [] [] back is there = or_left (is_pair a b (x, first)) false (and_from (x == a) (first == b) there (eq-eqb first b (head_is first b [] back is)))
  uncut a b first x (y ∷ ys) [] back is there =
      or_left (is_pair a b (x, y)) (list_any (is_pair a b) (pairs_to first (y ∷ ys))) (and_from (x == a) (y == b) there (eq-eqb y b (head_is y b (ys ++ first ∷ []) back is)))
  uncut a b first x [] (z ∷ to_a) back is there =
      absurd (let long = ap length (tail_is first z [] (to_a ++ b ∷ back) is) in omega (arith, long, length-append to_a (b ∷ back)))
  uncut a b first x (y ∷ ys) (z ∷ to_a) back is there =
      let parts = and_parts (is_before x z) (goes is_before z to_a a) there in
      or_right (is_pair a b (x, y)) (list_any (is_pair a b) (pairs_to first (y ∷ ys)))
      (uncut a b first y ys to_a back (tail_is y z (ys ++ first ∷ []) (to_a ++ b ∷ back) is)
      (subst (λ n. goes is_before n to_a a ≡ true) (sym (head_is y z (ys ++ first ∷ []) (to_a ++ b ∷ back) is)) parts.1))

  -- a path ends with its last number
  ends_with : (x to : ℕ) (xs : List ℕ) → goes is_before x xs to ≡ true → (front : List ℕ) × (x ∷ xs ≡ front ++ to ∷ [])
  ends_with x to [] there = ([], ap (λ n. n ∷ []) (eqb-true x to there))
  ends_with x to (y ∷ ys) there =
      let rest = ends_with y to ys (and_parts (is_before x y) (goes is_before y ys to) there).1 in
      (x ∷ rest.0, ap (λ list. x ∷ list) rest.1)

  walk_ends : (to steps from : ℕ) → is_in all from ≡ true → Walk is_before all to steps from → is_in all to ≡ true
  walk_ends to steps from inside walk = by from walk.numbers inside walk.among walk.leads
    where
      by : (x : ℕ) (xs : List ℕ) → is_in all x ≡ true → Among all xs → goes is_before x xs to ≡ true → is_in all to ≡ true
      by x [] own among there = subst (λ n. is_in all n ≡ true) (eqb-true x to there) own
      by x (y ∷ ys) own (next, among) there = by y ys next among (and_parts (is_before x y) (goes is_before y ys to) there).1

  -- ---- all lists, by length

  pub lists_up_are : AllByRecursion (λ list. (length list ≤ length all) × Among all list) (lists_up all)
  lists_up_are =
      subst (λ lengths. AllByRecursion (λ list. (length list ≤ length all) × Among all list) (flat_map (λ n. lists_of n all) lengths)) (sym (numbers_next (length all)))
      (by (length all) 0 (let same : length all + 0 ≤ length all = omega arith in same))
    where
      each : (n : ℕ) → n ≤ length all → (lists : List (List ℕ)) → AllByRecursion (λ list. (length list ≡ n) × Among all list) lists
          → AllByRecursion (λ list. (length list ≤ length all) × Among all list) lists
      each n low [] own = tt
      each n low (list ∷ lists) (own, others) = ((let is = own.0 in omega (arith, is, low), own.1), each n low lists others)

      by : (more count : ℕ) → more + count ≤ length all → AllByRecursion (λ list. (length list ≤ length all) × Among all list) (flat_map (λ n. lists_of n all) (next_numbers more count))
      by zero count low = tt
      by (suc more) count low =
          each_append (λ list. (length list ≤ length all) × Among all list) (lists_of (suc count) all) (flat_map (λ n. lists_of n all) (next_numbers more (suc count)))
          (each (suc count) (omega (arith, low)) (lists_of (suc count) all) (lists_are all (suc count))) (by more (suc count) (omega (arith, low)))

  pub none_of_length : (p : List ℕ → Bool) (more count : ℕ) → find p (flat_map (λ n. lists_of n all) (next_numbers more count)) ≡ None
      → (n : ℕ) → count < n → n ≤ more + count → find p (lists_of n all) ≡ None
  none_of_length p zero count e n low high = absurd (omega (arith, low, high))
  none_of_length p (suc more) count e n low high =
      let parts = none_parts (find p (lists_of (suc count) all)) (find p (flat_map (λ m. lists_of m all) (next_numbers more (suc count))))
      (sym (find-append p (lists_of (suc count) all) (flat_map (λ m. lists_of m all) (next_numbers more (suc count)))) ∙ e) in
      elim (cases_eq n (suc count)) [
        | inl same ↦ ap (λ m. find p (lists_of m all)) same ∙ parts.0
        | inr other ↦ none_of_length p more (suc count) parts.1 n (omega (arith, low, other)) (omega (arith, high))
      ]

  -- ---- the cycle of a pair

  module _ (a b : ℕ) where
    -- a cycle through the pair, begun anywhere
    record IsThrough (list : List ℕ) : Type 0 where
      first : ℕ
      others : List ℕ
      is : list ≡ first ∷ others
      cut : IsCut a b first first others

    through : (list : List ℕ) → goes_through is_before all a b list ≡ true → IsThrough list
    through [] own = absurd (false≢true own)
    through (first ∷ others) own =
        let parts = and_parts (closes is_before first (first ∷ others)) (has_pair a b (first ∷ others)) own in
        record { first = first; others = others; is = refl; cut = cut a b first first others parts.0 parts.1 }

    -- its paths, from its first number to a and from b to this one
    record Parts (list : List ℕ) : Type 0 where
      first : ℕ
      others : List ℕ
      is : list ≡ first ∷ others
      cut : IsCut a b first first others
      there : Walk is_before all a (length cut.to_a) first
      home : Walk is_before all first (length cut.back) b
      sum : length cut.back + length cut.to_a ≡ length others
      among-there : Among all cut.to_a
      among-home : Among all cut.back

    parts_of : (list : List ℕ) → Among all list → goes_through is_before all a b list ≡ true → Parts list
    parts_of list among own =
        let all-of = through list own in
        let one = all-of.cut in
        let inside : Among all (all-of.first ∷ all-of.others) = subst (Among all) all-of.is among in
        let closed : Among all (one.to_a ++ b ∷ one.back) = subst (Among all) one.is (each_append (λ t. is_in all t ≡ true) all-of.others (all-of.first ∷ []) inside.1 (inside.0, tt)) in
        record {
          first = all-of.first;
          others = all-of.others;
          is = all-of.is;
          cut = one;
          there = record { numbers = one.to_a; leads = one.there; count = refl; among = each_front (λ t. is_in all t ≡ true) one.to_a (b ∷ one.back) closed };
          home = record { numbers = one.back; leads = one.home; count = refl; among = (each_behind (λ t. is_in all t ≡ true) one.to_a (b ∷ one.back) closed).1 };
          among-there = each_front (λ t. is_in all t ≡ true) one.to_a (b ∷ one.back) closed;
          among-home = (each_behind (λ t. is_in all t ≡ true) one.to_a (b ∷ one.back) closed).1;
          sum = (let long = ap length one.is in omega (arith, long, length-append all-of.others (all-of.first ∷ []), length-append one.to_a (b ∷ one.back)));
        }

    -- where no path leads from b to a, there is none
    pub no_cycle : is_in all b ≡ true → ((j : ℕ) → j < length all → Walk is_before all a j b → ⊥) → cycle_through is_before all a b ≡ None
    no_cycle inside none = by (cycle_through is_before all a b) refl
      where
        by : (found : Option (List ℕ)) → cycle_through is_before all a b ≡ found → found ≡ None
        by None e = refl
        by (Some list) e =
            let own = find_each (λ one. (length one ≤ length all) × Among all one) (goes_through is_before all a b) (lists_up all) list lists_up_are e in
            let parts = parts_of list own.1 (find_passes (goes_through is_before all a b) (lists_up all) list e) in
            let long = ap length parts.is in
            let low = own.0 in
            let sum = parts.sum in
            absurd (none (length parts.cut.back + length parts.cut.to_a) (omega (arith, long, low, sum)) (walk_on is_before all b parts.first a (length parts.cut.back) (length parts.cut.to_a) parts.home parts.there))

    module _ (up : Ascends all) (l d i j : ℕ) (to_a back : List ℕ) (sum : i + j ≡ d) (edge : is_before a b ≡ true) (inside : is_in all b ≡ true)
        (path : IsPath is_before all a b d l) (there : IsFirstPath a j l to_a) (home : IsFirstPath l i b back) where
      whole : (front : List ℕ) × (b ∷ back ≡ front ++ l ∷ [])
      whole = ends_with b l back (subst (λ list. goes is_before b list l ≡ true) home.same home.walk.leads)

      abbrev others : List ℕ
      others = to_a ++ whole.0

      closed : to_a ++ b ∷ back ≡ others ++ l ∷ []
      closed = ap (λ list. to_a ++ list) whole.1 ∙ sym (append_assoc to_a whole.0 (l ∷ []))

      to_a-long : length to_a ≡ j
      to_a-long = ap length (sym there.same) ∙ there.walk.count

      back-long : length back ≡ i
      back-long = ap length (sym home.same) ∙ home.walk.count

      long : length others ≡ d
      long =
          let lengths = ap length closed in
          omega (arith, lengths, length-append to_a (b ∷ back), length-append others (l ∷ []), to_a-long, back-long, sum)

      goes-there : goes is_before l to_a a ≡ true
      goes-there = subst (λ list. goes is_before l list a ≡ true) there.same there.walk.leads

      goes-home : goes is_before b back l ≡ true
      goes-home = subst (λ list. goes is_before b list l ≡ true) home.same home.walk.leads

      passes : goes_through is_before all a b (l ∷ others) ≡ true
      passes = and_from (closes is_before l (l ∷ others)) (has_pair a b (l ∷ others))
          (closes_is l l others ∙ ap (λ list. goes is_before l list l) (sym closed)
          ∙ goes_on is_before l a l to_a (b ∷ back) goes-there (and_from (is_before a b) (goes is_before b back l) edge goes-home))
          (uncut a b l l others to_a back (sym closed) goes-there)

      l-inside : is_in all l ≡ true
      l-inside = walk_ends l i b inside home.walk

      among : Among all (l ∷ others)
      among = (
        l-inside,
        each_front (λ t. is_in all t ≡ true) others (l ∷ []) (subst (Among all) closed
            (each_append (λ t. is_in all t ≡ true) to_a (b ∷ back) (subst (Among all) there.same there.walk.among) (inside, subst (Among all) home.same home.walk.among))),
      )

      -- each cycle through the pair has as many numbers or more
      no_shorter : (list : List ℕ) → Parts list → suc d ≤ length list
      no_shorter list parts =
          let long = ap length parts.is in
          let sum = parts.sum in
          let less = path.shortest (length parts.cut.back + length parts.cut.to_a) (walk_on is_before all b parts.first a (length parts.cut.back) (length parts.cut.to_a) parts.home parts.there) in
          omega (arith, long, sum, less)

      -- and comes behind it, where it has as many
      not_before : (list : List ℕ) → length list ≡ suc d → Parts list → is_le (slice_cmp nat_cmp (l ∷ others) list) ≡ true
      not_before list count parts =
          let sums : length parts.cut.back + length parts.cut.to_a ≡ d = (let long = ap length parts.is in let sum = parts.sum in omega (arith, long, sum, count)) in
          let low : l ≤ parts.first = path.bound parts.first (length parts.cut.back) (length parts.cut.to_a) sums parts.home parts.there in
          subst (λ own. is_le (slice_cmp nat_cmp (l ∷ others) own) ≡ true) (sym parts.is)
          (elim (cases_eq l parts.first) [
            | inl same ↦ le_same l parts.first others parts.others same (behind same sums)
            | inr other ↦ le_less l parts.first others parts.others (omega (arith, low, other))
          ])
        where
          behind : l ≡ parts.first → length parts.cut.back + length parts.cut.to_a ≡ d → is_le (slice_cmp nat_cmp others parts.others) ≡ true
          behind same sums =
              let there-now : Walk is_before all a (length parts.cut.to_a) l = subst (λ n. Walk is_before all a (length parts.cut.to_a) n) (sym same) parts.there in
              let home-now : Walk is_before all l (length parts.cut.back) b = subst (λ n. Walk is_before all n (length parts.cut.back) b) (sym same) parts.home in
              let one = path.shortest (i + length parts.cut.to_a) (walk_on is_before all b l a i (length parts.cut.to_a) home.walk there-now) in
              let two = path.shortest (length parts.cut.back + j) (walk_on is_before all b l a (length parts.cut.back) j home-now there.walk) in
              let to_a-same : length parts.cut.to_a ≡ j = omega (arith, one, two, sums, sum) in
              let back-same : length parts.cut.back ≡ i = omega (arith, one, two, sums, sum) in
              let own = there.least parts.cut.to_a (subst (λ n. goes is_before n parts.cut.to_a a ≡ true) (sym same) parts.cut.there) to_a-same parts.among-there in
              let later = home.least parts.cut.back (subst (λ n. goes is_before b parts.cut.back n ≡ true) (sym same) parts.cut.home) back-same parts.among-home in
              le_front l others parts.others (omega (arith, long, parts.sum, sums))
              (subst (λ list. is_le (slice_cmp nat_cmp (others ++ l ∷ []) list) ≡ true) (sym parts.cut.is ∙ ap (λ n. parts.others ++ n ∷ []) (sym same))
              (subst (λ list. is_le (slice_cmp nat_cmp list (parts.cut.to_a ++ b ∷ parts.cut.back)) ≡ true) closed
              (le_append to_a parts.cut.to_a (b ∷ back) (b ∷ parts.cut.back) (to_a-long ∙ sym to_a-same) own (le_same b b back parts.cut.back refl later))))

      pub first_through : d < length all → cycle_through is_before all a b ≡ Some (without_last ((l ∷ to_a) ++ b ∷ back))
      first_through few =
          by (cycle_through is_before all a b) refl ∙ ap Some (sym (ap without_last (ap (λ list. l ∷ list) closed) ∙ cut_last (l ∷ others)))
        where
          cut_last : (list : List ℕ) → without_last (list ++ l ∷ []) ≡ list
          cut_last list = take_at list (l ∷ []) (length (list ++ l ∷ []) - 1) (omega (arith, length-append list (l ∷ [])))

          none : (n : ℕ) → find (goes_through is_before all a b) (lists_of n all) ≡ None → n ≡ suc d → ⊥
          none n e same =
              false≢true (sym (none_passes all n (goes_through is_before all a b) e (l ∷ others) (ap suc long ∙ sym same) among) ∙ passes)

          by : (found : Option (List ℕ)) → cycle_through is_before all a b ≡ found → found ≡ Some (l ∷ others)
          by None e = absurd (none (suc d)
              (none_of_length (goes_through is_before all a b) (length all) 0 (ap (λ lengths. find (goes_through is_before all a b) (flat_map (λ n. lists_of n all) lengths)) (sym (numbers_next (length all))) ∙ e)
              (suc d) (omega arith) (omega (arith, few))) refl)
          by (Some list) e =
              let at = first_length is_before all (goes_through is_before all a b) (length all) 0 list
              (ap (λ lengths. find (goes_through is_before all a b) (flat_map (λ n. lists_of n all) lengths)) (sym (numbers_next (length all))) ∙ e) in
              let n : ℕ = at.0 in
              let own = find_each (λ one. (length one ≡ n) × Among all one) (goes_through is_before all a b) (lists_of n all) list (lists_are all n) at.1.is in
              let pass = find_passes (goes_through is_before all a b) (lists_of n all) list at.1.is in
              let parts = parts_of list own.1 pass in
              let low : suc d ≤ n = (let count = own.0 in let less = no_shorter list parts in omega (arith, count, less)) in
              let high : n ≤ suc d = elim (cases_lt (suc d) n) [ inl less ↦ absurd (none (suc d) (at.1.before (suc d) (omega arith) less) refl) | inr above ↦ above ] in
              let same : n ≡ suc d = omega (arith, low, high) in
              let count : length list ≡ suc d = own.0 ∙ same in
              ap Some (le_both list (l ∷ others) (count ∙ ap suc (sym long))
              (first_passes all up n (goes_through is_before all a b) list at.1.is (l ∷ others) (ap suc long ∙ sym same) among passes)
              (not_before list count parts))

  -- ---- the search finds it

  module _ (up : Ascends all) (count : ℕ) (below : (t : ℕ) → is_in all t ≡ true → t < count) (from to : ℕ → List ℕ)
      (froms : (t : ℕ) → t < count → from t ≡ before is_before all t) (tos : (t : ℕ) → t < count → to t ≡ after is_before all t) where
    abbrev most : ℕ
    most = length all - 1

    tos-in : (t : ℕ) → is_in all t ≡ true → to t ≡ after is_before all t
    tos-in t inside = tos t (below t inside)

    module _ (a b : ℕ) (a-inside : is_in all a ≡ true) (b-inside : is_in all b ≡ true) (edge : is_before a b ≡ true) where
      abbrev to_a : List (Option Path)
      to_a = paths_to from count most a

      known_a : (t : ℕ) → is_in all t ≡ true → Known is_before all a most t (get_or to_a t None)
      known_a = paths_known is_before all a count below from froms a-inside most

      one_or_none : (found : Option Path) → Known is_before all a most b found
          → option_map_or (λ (path : Path). cycle_by from to count to_a path b ∷ []) found [] ≡ option_map_or (λ (cycle : List ℕ). cycle ∷ []) (cycle_through is_before all a b) []
      one_or_none None none =
          ap (λ (found : Option (List ℕ)). option_map_or (λ (cycle : List ℕ). cycle ∷ []) found [])
          (sym (no_cycle a b b-inside (λ j less. none j (let low : j ≤ length all - 1 = omega (arith, less) in low))))
      one_or_none (Some path) (low, is) =
          let l : ℕ = path.least in
          let i : ℕ = is.first in
          let j : ℕ = is.rest in
          let sum = is.sum in
          let l-inside = walk_ends l i b b-inside is.here in
          let at_l : AtSteps is_before all a j l = record {
            inside = l-inside;
            walk = is.there;
            none = λ n walk. (let more = is.shortest (i + n) (walk_on is_before all b l a i n is.here walk) in omega (arith, more, sum));
          } in
          let at_b : AtSteps is_before all l i b = record {
            inside = b-inside;
            walk = is.here;
            none = λ n walk. (let more = is.shortest (n + j) (walk_on is_before all b l a n j walk is.there) in omega (arith, more, sum));
          } in
          let j-low : j ≤ most = omega (arith, low, sum) in
          let there-steps : steps_at l to_a ≡ j = at_is a most j l j-low at_l to_a (known_a l l-inside) in
          let left : path.steps - steps_at l to_a ≡ i = omega (arith, there-steps, sum) in
          let to_l : List (Option Path) = paths_to from count i l in
          let known_l : (t : ℕ) → is_in all t ≡ true → Known is_before all l i t (get_or to_l t None) = paths_known is_before all l count below from froms l-inside i in
          let home-steps : steps_at b to_l ≡ i = at_is l i i b (let same : i ≤ i = omega arith in same) at_b to_l (known_l b b-inside) in
          let few : path.steps < length all = (let some = inside_some all a a-inside in omega (arith, low, some)) in
          let cycle = first_through a b up l path.steps i j (down to to_a j l) (down to to_l i b) sum edge b-inside is
          (down_first up to tos-in a most to_a known_a j l j-low at_l) (down_first up to tos-in l i to_l known_l i b (let same : i ≤ i = omega arith in same) at_b) few in
          let same : cycle_by from to count to_a path b ≡ without_last ((l ∷ down to to_a j l) ++ b ∷ down to to_l i b) =
          ap (λ n. joined to to_a (paths_to from count n l) l b) left
          ∙ (λ at. without_last ((l ∷ down to to_a (there-steps at) l) ++ b ∷ down to to_l (home-steps at) b)) in
          ap (λ list. list ∷ []) same ∙ ap (λ (found : Option (List ℕ)). option_map_or (λ (own : List ℕ). own ∷ []) found []) (sym cycle)
        where
          inside_some : (list : List ℕ) (t : ℕ) → is_in list t ≡ true → 0 < length list
          inside_some [] t inside = absurd (false≢true inside)
          inside_some (x ∷ list) t inside = omega arith

      pub pair_is : option_map_or (λ (path : Path). cycle_by from to count (paths_to from count (length all - 1) a) path b ∷ []) (get_or (paths_to from count (length all - 1) a) b None) []
          ≡ option_map_or (λ (cycle : List ℕ). cycle ∷ []) (cycle_through is_before all a b) []
      pair_is = one_or_none (get_or to_a b None) (known_a b b-inside)
