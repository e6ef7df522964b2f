-- The first cycle of all lists, by length and then in order, is the least one in its own words.
use Rattle.gp_serial.proofs.Prelude.{◌≡◌, ◌≢◌, ◌+◌, ◌-◌, ◌<◌, ◌≤◌, ℕ, zero, suc, Bool, true, false, cond, List, [], ◌∷◌, ◌++◌, map, length, drop, take, get_or, length-append, Option, Some, None, refl, sym, ap, ◌∙◌, subst, arith, inl, inr, ◌==◌, ◌&&◌, ◌||◌, Contains, find, unwrap_or, slice_cmp, AllByRecursion, flat_map, list_any, option_map, option_or, ordering_then, Less, Equal, Greater, and_parts, cases_eq, cases_lt, eq-eqb, eqb-true, false≢true, ne_eqb, drop_more, get_or_append_left, find-append, none-some, same_Some, each_append, each_map, none_parts, some_none, numbers}
use Rattle.std.specs.List.{AllPairs}
use Rattle.std.specs.Ordering.{is_le, nat_cmp}
use Rattle.std.proofs.lemmas.Bool.{le-ltb, lt-ltb}
use Rattle.std.proofs.lemmas.List.{get_or-drop, length-drop, length-take-le, take-append-drop}
use Rattle.std.proofs.lemmas.List.Folds.{list_any_at}
use Rattle.gp_base.proofs.SmallLemmas.{each_flat_map}
use Rattle.gp_serial.specs.Graphs.{closes, is_cycle, least_cycle, lists_of}
use Rattle.gp_serial.specs.LeastCycles.{IsCycleOf, IsLeastCycle}
use Rattle.gp_serial.proofs.CycleLemmas.{find_map, next_numbers, numbers_next}

-- ---- numbers in order

pub cmp_less : (a b : ℕ) → a < b → nat_cmp a b ≡ Less
cmp_less a b less = ap (λ t. cond t Less (cond (a == b) Equal Greater)) (lt-ltb a b less)

pub cmp_equal : (a b : ℕ) → a ≡ b → nat_cmp a b ≡ Equal
cmp_equal a b is = ap (λ t. cond t Less (cond (a == b) Equal Greater)) (le-ltb a b (omega (arith, is))) ∙ ap (λ t. cond t Equal Greater) (eq-eqb a b is)

pub cmp_greater : (a b : ℕ) → b < a → nat_cmp a b ≡ Greater
cmp_greater a b less =
    ap (λ t. cond t Less (cond (a == b) Equal Greater)) (le-ltb a b (omega (arith, less)))
    ∙ ap (λ t. cond t Equal Greater) (ne_eqb a b (λ same. absurd (omega (arith, same, less))))

-- the first of two lists in order does not begin with more
head_least : (a b : ℕ) (others more : List ℕ) → is_le (slice_cmp nat_cmp (a ∷ others) (b ∷ more)) ≡ true → a ≤ b
head_least a b others more le =
    elim (cases_lt b a) [
      | inl less ↦ absurd (false≢true (ap (λ o. is_le (ordering_then o (slice_cmp nat_cmp others more))) (sym (cmp_greater a b less)) ∙ le))
      | inr above ↦ above
    ]

-- ---- what is among some numbers

abbrev pub is_in : List ℕ → ℕ → Bool
is_in list t = list_any (λ other. other == t) list

pub above_in : (x t : ℕ) (xs : List ℕ) → AllByRecursion (λ y. x < y) xs → is_in xs t ≡ true → x < t
above_in x t [] above there = absurd (false≢true there)
above_in x t (y ∷ xs) (own, above) there = by (y == t) refl there (above_in x t xs above)
  where
    by : (b : Bool) → (y == t) ≡ b → (b || is_in xs t) ≡ true → (is_in xs t ≡ true → x < t) → x < t
    by true is there rest = subst (λ n. x < n) (eqb-true y t is) own
    by false is there rest = rest there

pub in_from : (xs : List ℕ) (t : ℕ) → Contains xs t → is_in xs t ≡ true
in_from xs t (k, within, is) = list_any_at (λ other. other == t) xs k t within (eq-eqb (get_or xs k t) t is)

pub from_in : (xs : List ℕ) (t : ℕ) → is_in xs t ≡ true → Contains xs t
from_in [] t there = absurd (false≢true there)
from_in (x ∷ xs) t there = by (x == t) refl there (from_in xs t)
  where
    by : (b : Bool) → (x == t) ≡ b → (b || is_in xs t) ≡ true → (is_in xs t ≡ true → Contains xs t) → Contains (x ∷ xs) t
    by true is there rest = (0, omega arith, eqb-true x t is)
    by false is there rest = let own = rest there in (suc own.0, omega (arith, own.1), own.2)

pub each_from : (P : ℕ → Type 0) (xs : List ℕ) → ((t : ℕ) → Contains xs t → P t) → AllByRecursion P xs
each_from P [] all = tt
each_from P (x ∷ xs) all = (all x (0, omega arith, refl), each_from P xs (λ t there. all t (suc there.0, omega (arith, there.1), there.2)))

each_at : (P : ℕ → Type 0) (xs : List ℕ) → AllByRecursion P xs → (k : ℕ) → k < length xs → (d : ℕ) → P (get_or xs k d)
each_at P [] each k within d = absurd (omega (arith, within))
each_at P (x ∷ xs) (own, each) zero within d = own
each_at P (x ∷ xs) (own, each) (suc k) within d = each_at P xs each k (omega (arith, within)) d

pub each_in : (P : ℕ → Type 0) (xs : List ℕ) → AllByRecursion P xs → (t : ℕ) → Contains xs t → P t
each_in P xs each t (k, within, is) = subst P is (each_at P xs each k within t)

-- each is below those behind it
abbrev pub Ascends : List ℕ → Type 0
Ascends [] = Unit {0}
Ascends (x ∷ xs) = AllByRecursion (λ y. x < y) xs × Ascends xs

pub ascends : (xs : List ℕ) → AllPairs (λ a b. a < b) xs → Ascends xs
ascends [] up = tt
ascends (x ∷ xs) up = (
  each_from (λ y. x < y) xs (λ t there. subst (λ n. x < n) there.2 (up 0 (suc there.0) t (omega arith) (omega (arith, there.1)))),
  ascends xs (λ i j d less within. up (suc i) (suc j) d (omega (arith, less)) (omega (arith, within))),
)

pub itself_in : (xs : List ℕ) → AllByRecursion (λ t. is_in xs t ≡ true) xs
itself_in xs = each_from (λ t. is_in xs t ≡ true) xs (in_from xs)

-- ---- the first of the lists that passes

pub find_passes : {A : Type 0} (p : A → Bool) (xs : List A) (x : A) → find p xs ≡ Some x → p x ≡ true
find_passes p [] x e = absurd (none-some x e)
find_passes {A} p (y ∷ xs) x e = by (p y) refl e (find_passes p xs x)
  where
    by : (b : Bool) → p y ≡ b → cond b (Some y) (find p xs) ≡ Some x → (find p xs ≡ Some x → p x ≡ true) → p x ≡ true
    by true is e rest = ap p (sym (same_Some y x e)) ∙ is
    by false is e rest = rest e

pub find_each : {A : Type 0} (P : A → Type 0) (p : A → Bool) (xs : List A) (x : A) → AllByRecursion P xs → find p xs ≡ Some x → P x
find_each P p [] x each e = absurd (none-some x e)
find_each {A} P p (y ∷ xs) x (own, each) e = by (p y) e (find_each P p xs x each)
  where
    by : (b : Bool) → cond b (Some y) (find p xs) ≡ Some x → (find p xs ≡ Some x → P x) → P x
    by true e rest = subst P (same_Some y x e) own
    by false e rest = rest e

map_none : {A B : Type 0} (f : A → B) (o : Option A) → option_map f o ≡ None → o ≡ None
map_none f None e = refl
map_none f (Some a) e = absurd (some_none (f a) e)

module _ (all : List ℕ) where
  abbrev pub Among : List ℕ → Type 0
  Among = AllByRecursion (λ t. is_in all t ≡ true)

  -- the lists of so many numbers that begin with one of these
  abbrev begun : ℕ → List ℕ → List (List ℕ)
  begun n tos = flat_map (λ first. map (λ others. first ∷ others) (lists_of n all)) tos

  pub lists_are : (n : ℕ) → AllByRecursion (λ list. (length list ≡ n) × Among list) (lists_of n all)
  lists_are zero = ((refl, tt), tt)
  lists_are (suc n) =
      each_flat_map (λ list. (length list ≡ suc n) × Among list) (λ t. is_in all t ≡ true) (λ first. map (λ others. first ∷ others) (lists_of n all))
      (λ first own. each_map (λ list. (length list ≡ suc n) × Among list) (λ list. (length list ≡ n) × Among list) (λ others. first ∷ others) (λ others is. (ap suc is.0, (own, is.1))) (lists_of n all)
      (lists_are n))
      all (itself_in all)

  -- where no list was found, none passes
  none_begun : (n : ℕ) (p : List ℕ → Bool) (x : ℕ) (other : List ℕ) → ((q : List ℕ → Bool) → find q (lists_of n all) ≡ None → q other ≡ false)
      → (tos : List ℕ) → find p (begun n tos) ≡ None → is_in tos x ≡ true → p (x ∷ other) ≡ false
  none_begun n p x other fewer [] e there = absurd (false≢true there)
  none_begun n p x other fewer (t ∷ tos) e there = by (t == x) refl there (none_begun n p x other fewer tos parts.1)
    where
      parts : (find p (map (λ others. t ∷ others) (lists_of n all)) ≡ None) × (find p (begun n tos) ≡ None)
      parts = none_parts (find p (map (λ others. t ∷ others) (lists_of n all))) (find p (begun n tos)) (sym (find-append p (map (λ others. t ∷ others) (lists_of n all)) (begun n tos)) ∙ e)

      by : (b : Bool) → (t == x) ≡ b → (b || is_in tos x) ≡ true → (is_in tos x ≡ true → p (x ∷ other) ≡ false) → p (x ∷ other) ≡ false
      by true is there rest =
          ap (λ u. p (u ∷ other)) (sym (eqb-true t x is))
          ∙ fewer (λ others. p (t ∷ others)) (map_none (λ others. t ∷ others) (find (λ others. p (t ∷ others)) (lists_of n all)) (sym (find_map p (λ others. t ∷ others) (lists_of n all)) ∙ parts.0))
      by false is there rest = rest there

  pub none_passes : (n : ℕ) (p : List ℕ → Bool) → find p (lists_of n all) ≡ None → (other : List ℕ) → length other ≡ n → Among other → p other ≡ false
  none_passes zero p e [] long among = by (p []) [] e
    where
      by : (b : Bool) (own : List ℕ) → cond b (Some own) None ≡ None → b ≡ false
      by true own e = absurd (some_none own e)
      by false own e = refl
  none_passes zero p e (x ∷ other) long among = absurd (omega (arith, long))
  none_passes (suc n) p e [] long among = absurd (omega (arith, long))
  none_passes (suc n) p e (x ∷ other) long (own, among) = none_begun n p x other (λ q none. none_passes n q none other (omega (arith, long)) among) all e own

  -- of the lists that pass, the one that was found comes first in order
  first_begun : (n : ℕ) (p : List ℕ → Bool) (x : ℕ) (other : List ℕ) → ((q : List ℕ → Bool) → find q (lists_of n all) ≡ None → q other ≡ false)
      → ((q : List ℕ → Bool) (own : List ℕ) → find q (lists_of n all) ≡ Some own → q other ≡ true → is_le (slice_cmp nat_cmp own other) ≡ true)
      → p (x ∷ other) ≡ true → (tos : List ℕ) → Ascends tos → (found : List ℕ) → find p (begun n tos) ≡ Some found → is_in tos x ≡ true → is_le (slice_cmp nat_cmp found (x ∷ other)) ≡ true
  first_begun n p x other none some passes [] up found e there = absurd (false≢true there)
  first_begun n p x other none some passes (t ∷ tos) (above, up) found e there =
      by (find (λ others. p (t ∷ others)) (lists_of n all)) refl split (t == x) refl there (first_begun n p x other none some passes tos up found)
    where
      split : option_or (option_map (λ (others : List ℕ). t ∷ others) (find (λ others. p (t ∷ others)) (lists_of n all))) (find p (begun n tos)) ≡ Some found
      split =
          ap (λ (own : Option (List ℕ)). option_or own (find p (begun n tos))) (sym (find_map p (λ others. t ∷ others) (lists_of n all)))
          ∙ sym (find-append p (map (λ others. t ∷ others) (lists_of n all)) (begun n tos))
          ∙ e

      by : (own : Option (List ℕ)) → find (λ others. p (t ∷ others)) (lists_of n all) ≡ own → option_or (option_map (λ (others : List ℕ). t ∷ others) own) (find p (begun n tos)) ≡ Some found
          → (b : Bool) → (t == x) ≡ b → (b || is_in tos x) ≡ true
          → (find p (begun n tos) ≡ Some found → is_in tos x ≡ true → is_le (slice_cmp nat_cmp found (x ∷ other)) ≡ true)
          → is_le (slice_cmp nat_cmp found (x ∷ other)) ≡ true
      by (Some own) is e true at there rest =
          ap (λ (list : List ℕ). is_le (slice_cmp nat_cmp list (x ∷ other))) (sym (same_Some (t ∷ own) found e))
          ∙ ap (λ o. is_le (ordering_then o (slice_cmp nat_cmp own other))) (cmp_equal t x (eqb-true t x at))
          ∙ some (λ others. p (t ∷ others)) own is (ap (λ u. p (u ∷ other)) (eqb-true t x at) ∙ passes)
      by (Some own) is e false at there rest =
          ap (λ (list : List ℕ). is_le (slice_cmp nat_cmp list (x ∷ other))) (sym (same_Some (t ∷ own) found e))
          ∙ ap (λ o. is_le (ordering_then o (slice_cmp nat_cmp own other))) (cmp_less t x (above_in t x tos above there))
      by None is e true at there rest =
          absurd (false≢true (sym (none (λ others. p (t ∷ others)) is) ∙ ap (λ u. p (u ∷ other)) (eqb-true t x at) ∙ passes))
      by None is e false at there rest = rest e there

  module _ (up : Ascends all) where
    pub first_passes : (n : ℕ) (p : List ℕ → Bool) (found : List ℕ) → find p (lists_of n all) ≡ Some found → (other : List ℕ) → length other ≡ n → Among other → p other ≡ true
        → is_le (slice_cmp nat_cmp found other) ≡ true
    first_passes zero p found e [] long among passes = by (p []) [] refl e
      where
        by : (b : Bool) (own : List ℕ) → own ≡ [] → cond b (Some own) None ≡ Some found → is_le (slice_cmp nat_cmp found []) ≡ true
        by true own none e = ap (λ (list : List ℕ). is_le (slice_cmp nat_cmp list [])) (sym (same_Some own found e) ∙ none)
        by false own none e = absurd (none-some found e)
    first_passes zero p found e (x ∷ other) long among passes = absurd (omega (arith, long))
    first_passes (suc n) p found e [] long among passes = absurd (omega (arith, long))
    first_passes (suc n) p found e (x ∷ other) long (own, among) passes =
        first_begun n p x other
        (λ q none. none_passes n q none other (omega (arith, long)) among)
        (λ q own some pass. first_passes n q own some other (omega (arith, long)) among pass)
        passes all up found e own

-- ---- the first length

-- the least length of which a list passes, of those above this one, so many
pub record IsFirstLength (p : List ℕ → Bool) (all : List ℕ) (count : ℕ) (found : List ℕ) (n : ℕ) : Type 0 where
  pub above : count < n
  pub is : find p (lists_of n all) ≡ Some found
  pub before : (m : ℕ) → count < m → m < n → find p (lists_of m all) ≡ None

module _ (is_before : ℕ → ℕ → Bool) (all : List ℕ) (p : List ℕ → Bool) where
  pub first_length : (more count : ℕ) (found : List ℕ) → find p (flat_map (λ n. lists_of n all) (next_numbers more count)) ≡ Some found
      → (n : ℕ) × IsFirstLength p all count found n
  first_length zero count found e = absurd (none-some found e)
  first_length (suc more) count found e =
      by (find p (lists_of (suc count) all)) refl
      (sym (find-append p (lists_of (suc count) all) (flat_map (λ n. lists_of n all) (next_numbers more (suc count)))) ∙ e)
      (first_length more (suc count) found)
    where
      by : (own : Option (List ℕ)) → find p (lists_of (suc count) all) ≡ own → option_or own (find p (flat_map (λ n. lists_of n all) (next_numbers more (suc count)))) ≡ Some found
          → (find p (flat_map (λ n. lists_of n all) (next_numbers more (suc count))) ≡ Some found → (n : ℕ) × IsFirstLength p all (suc count) found n)
          → (n : ℕ) × IsFirstLength p all count found n
      by (Some own) is e rest = (suc count, record { above = omega arith; is = is ∙ e; before = λ m low high. absurd (omega (arith, low, high)) })
      by None is e rest =
          let later = rest e in (
            later.0,
            record {
              above = omega (arith, later.1.above);
              is = later.1.is;
              before = λ m low high. elim (cases_eq m (suc count)) [
                | inl same ↦ ap (λ n. find p (lists_of n all)) same ∙ is
                | inr other ↦ later.1.before m (omega (arith, low, other)) high
              ];
            },
          )

-- ---- a cycle begun at its second number

module _ (is_before : ℕ → ℕ → Bool) where
  closes_parts : (first t y : ℕ) (ys rest : List ℕ) → closes is_before first ((y ∷ ys) ++ t ∷ rest) ≡ (closes is_before t (y ∷ ys) && closes is_before first (t ∷ rest))
  closes_parts first t y [] rest = refl
  closes_parts first t y (z ∷ zs) rest = ap (λ b. is_before y z && b) (closes_parts first t z zs rest) ∙ grouped (is_before y z) (closes is_before t (z ∷ zs)) (closes is_before first (t ∷ rest))
    where
      grouped : (a b c : Bool) → (a && (b && c)) ≡ ((a && b) && c)
      grouped true b c = refl
      grouped false b c = refl

  closes_rest : (first k : ℕ) (list : List ℕ) → k < length list → closes is_before first list ≡ true → closes is_before first (drop k list) ≡ true
  closes_rest first k [] within e = absurd (omega (arith, within))
  closes_rest first zero (a ∷ list) within e = e
  closes_rest first (suc k) (a ∷ []) within e = absurd (omega (arith, within))
  closes_rest first (suc k) (a ∷ b ∷ others) within e =
      closes_rest first k (b ∷ others) (omega (arith, within)) (and_parts (is_before a b) (closes is_before first (b ∷ others)) e).1

  turned : (a : ℕ) (others : List ℕ) → is_cycle is_before (a ∷ others) ≡ true → is_cycle is_before (others ++ a ∷ []) ≡ true
  turned a [] e = e
  turned a (b ∷ others) e = closes_parts b a b others [] ∙ swapped (closes is_before a (b ∷ others)) (is_before a b) e
    where
      swapped : (c d : Bool) → (d && c) ≡ true → (c && d) ≡ true
      swapped true true e = refl
      swapped true false e = e
      swapped false true e = e
      swapped false false e = e

  module _ (all : List ℕ) where
    -- whatever number of it a cycle of this length begins with, the first in order begins with no more
    begins_least : (first : ℕ) (rest : List ℕ) → ((other : List ℕ) → is_cycle is_before other ≡ true → Among all other → length other ≡ suc (length rest) → is_le (slice_cmp nat_cmp (first ∷ rest) other) ≡ true)
        → (k : ℕ) (other : List ℕ) → is_cycle is_before other ≡ true → Among all other → length other ≡ suc (length rest) → k < length other → (d : ℕ) → first ≤ get_or other k d
    begins_least first rest least k [] e among long within d = absurd (omega (arith, within))
    begins_least first rest least zero (a ∷ others) e among long within d = head_least first a rest others (least (a ∷ others) e among long)
    begins_least first rest least (suc k) (a ∷ others) e (own, among) long within d =
        let longer : length (others ++ a ∷ []) ≡ suc (length others) = omega (arith, length-append others (a ∷ [])) in
        let here : get_or (others ++ a ∷ []) k d ≡ get_or others k d = get_or_append_left others (a ∷ []) d k (omega (arith, within)) in
        subst (λ n. first ≤ n) here
        (begins_least first rest least k (others ++ a ∷ []) (turned a others e) (each_append (λ t. is_in all t ≡ true) others (a ∷ []) among (own, tt)) (longer ∙ long) (omega (arith, longer, within)) d)

-- ---- a number that occurs twice

each_drop : (P : ℕ → Type 0) (k : ℕ) (xs : List ℕ) → AllByRecursion P xs → AllByRecursion P (drop k xs)
each_drop P zero xs each = each
each_drop P (suc k) [] each = each
each_drop P (suc k) (x ∷ xs) each = each_drop P k xs each.1

each_take : (P : ℕ → Type 0) (k : ℕ) (xs : List ℕ) → AllByRecursion P xs → AllByRecursion P (take k xs)
each_take P zero xs each = tt
each_take P (suc k) [] each = tt
each_take P (suc k) (x ∷ xs) each = (each.0, each_take P k xs each.1)

module _ (is_before : ℕ → ℕ → Bool) (all : List ℕ) where
  -- the numbers from its first occurrence to its second are a shorter cycle
  not_twice : (first : ℕ) (rest : List ℕ) → is_cycle is_before (first ∷ rest) ≡ true → Among all (first ∷ rest)
      → ((other : List ℕ) → is_cycle is_before other ≡ true → Among all other → length (first ∷ rest) ≤ length other)
      → (i j : ℕ) → i < j → j < length (first ∷ rest) → get_or (first ∷ rest) i 0 ≢ get_or (first ∷ rest) j 0
  not_twice first rest e among least i j less within same =
      let cycle : List ℕ = first ∷ rest in
      let t : ℕ = get_or cycle i 0 in
      let m : ℕ = j - (i + 1) in
      let later : List ℕ = drop (i + 1) cycle in
      let below : i < length cycle = omega (arith, less, within) in
      let here : drop i cycle ≡ t ∷ later = drop_more cycle i 0 below in
      let inside : m < length later = omega (arith, less, within, length-drop (i + 1) cycle) in
      let sum : i + 1 + m ≡ j = omega (arith, less) in
      let again : get_or later m 0 ≡ t = get_or-drop (i + 1) cycle m 0 ∙ ap (λ n. get_or cycle n 0) sum ∙ sym same in
      let split : later ≡ take m later ++ t ∷ drop (m + 1) later =
      sym (take-append-drop m later) ∙ ap (λ list. take m later ++ list) (drop_more later m 0 inside ∙ ap (λ n. n ∷ drop (m + 1) later) again) in
      let closed : closes is_before first (t ∷ (take m later ++ t ∷ drop (m + 1) later)) ≡ true =
      subst (λ list. closes is_before first list ≡ true) (here ∙ ap (λ list. t ∷ list) split) (closes_rest is_before first i cycle below e) in
      let parts = and_parts (closes is_before t (t ∷ take m later)) (closes is_before first (t ∷ drop (m + 1) later))
      (sym (closes_parts is_before first t t (take m later) (drop (m + 1) later)) ∙ closed) in
      let short : length (take m later) ≡ m = length-take-le m later (omega (arith, inside)) in
      let those = subst (AllByRecursion (λ t. is_in all t ≡ true)) here (each_drop (λ t. is_in all t ≡ true) i cycle among) in
      let above = least (t ∷ take m later) parts.0 (those.0, each_take (λ t. is_in all t ≡ true) m later those.1) in
      omega (arith, above, short, less, within)

-- ---- the least cycle

module _ (is_before : ℕ → ℕ → Bool) (all : List ℕ) (up : Ascends all) where
  never_empty : (list : List ℕ) → is_cycle is_before list ≡ true → 0 < length list
  never_empty [] e = absurd (false≢true e)
  never_empty (a ∷ list) e = omega arith

  among_of : (other : List ℕ) → IsCycleOf is_before all other → Among all other
  among_of other of = each_from (λ t. is_in all t ≡ true) other (λ t there. in_from all t (of.among t there))

  least_found : (found : List ℕ) (n : ℕ) → IsFirstLength (is_cycle is_before) all 0 found n → IsLeastCycle is_before all found
  least_found [] n is = absurd (false≢true (find_passes (is_cycle is_before) (lists_of n all) [] is.is))
  least_found (first ∷ rest) n is =
      let own = find_each (λ list. (length list ≡ n) × Among all list) (is_cycle is_before) (lists_of n all) (first ∷ rest) (lists_are all n) is.is in
      let closed = find_passes (is_cycle is_before) (lists_of n all) (first ∷ rest) is.is in
      let least : (other : List ℕ) → is_cycle is_before other ≡ true → Among all other → length (first ∷ rest) ≤ length other =
      λ other e among. elim (cases_lt (length other) n) [
        | inl less ↦ absurd (false≢true (sym (none_passes all (length other) (is_cycle is_before) (is.before (length other) (never_empty other e) less) other refl among) ∙ e))
        | inr above ↦ omega (arith, above, own.0)
      ] in
      record {
        own = record { closes = closed; among = λ t there. from_in all t (each_in (λ t. is_in all t ≡ true) (first ∷ rest) own.1 t there) };
        shortest = λ other of. least other of.closes (among_of other of);
        first = λ other of long. first_passes all up n (is_cycle is_before) (first ∷ rest) is.is other (long ∙ own.0) (among_of other of) of.closes;
        begins = λ t there. subst (λ m. first ≤ m) there.2
            (begins_least is_before all first rest
            (λ other e among long. first_passes all up n (is_cycle is_before) (first ∷ rest) is.is other (long ∙ own.0) among e)
            there.0 (first ∷ rest) closed own.1 refl there.1 t);
        once = not_twice is_before all first rest closed own.1 least;
      }

pub least_is : (is_before : ℕ → ℕ → Bool) (all : List ℕ) → AllPairs (λ a b. a < b) all → least_cycle is_before all ≢ [] → IsLeastCycle is_before all (least_cycle is_before all)
least_is is_before all up some = by (find (is_cycle is_before) (flat_map (λ n. lists_of n all) (numbers (length all)))) refl some
  where
    by : (found : Option (List ℕ)) → find (is_cycle is_before) (flat_map (λ n. lists_of n all) (numbers (length all))) ≡ found → unwrap_or found [] ≢ [] → IsLeastCycle is_before all (unwrap_or found [])
    by None is some = absurd (some refl)
    by (Some found) is some =
        let least = first_length is_before all (is_cycle is_before) (length all) 0 found
        (ap (λ lengths. find (is_cycle is_before) (flat_map (λ n. lists_of n all) lengths)) (sym (numbers_next (length all))) ∙ is) in
        least_found is_before all (ascends all up) found least.0 least.1
