-- Paths of a relation, and what each level of the search for the shortest ones knows of them.
use Rattle.gp_serial.proofs.Prelude.{◌≡◌, ◌+◌, ◌<◌, ◌≤◌, ℕ, zero, suc, Bool, true, false, List, [], ◌∷◌, ◌++◌, length, length-append, get_or, filter, Option, Some, None, is_none, refl, sym, ap, ◌∙◌, subst, arith, inl, inr, ◌==◌, ◌&&◌, ◌||◌, nat_lt, if◌then◌else◌, AllByRecursion, list_any-append, option_map_or, and_parts, cases_eq, cases_lt, eq-eqb, eqb-true, false≢true, ne_eqb, each_append, append_assoc, append-nil}
use Rattle.std.proofs.Common.{◌⊎◌, replicate, set, get_or-set_other, get_or-set_same}
use Rattle.std.proofs.lemmas.Bool.{and_from, or_cases, or_left, or_right, ltb-true, ltb-false}
use Rattle.std.proofs.lemmas.List.{length-replicate, length-set}
use Rattle.gp_serial.specs.PathForms.{before, fresh, fresh_one, if_fresh, least_at, lesser, nearer, next_level, reach, reach_each, spread, paths_from, paths_to}
use Rattle.gp_serial.specs.declared.pair_cycle.Path.{Path}
use Rattle.gp_serial.proofs.LeastLemmas.{Among, each_from, in_from, is_in, itself_in}

-- ---- lists

pub filter_each : (P : ℕ → Type 0) (p : ℕ → Bool) (xs : List ℕ) → AllByRecursion P xs → AllByRecursion (λ x. P x × (p x ≡ true)) (filter p xs)
filter_each P p [] each = tt
filter_each P p (x ∷ xs) (own, each) = by (p x) refl (filter_each P p xs each)
  where
    by : (b : Bool) → p x ≡ b → AllByRecursion (λ x. P x × (p x ≡ true)) (filter p xs) → AllByRecursion (λ x. P x × (p x ≡ true)) (if b then x ∷ filter p xs else filter p xs)
    by true is rest = ((own, is), rest)
    by false is rest = rest

pub filter_in : (p : ℕ → Bool) (t : ℕ) → p t ≡ true → (xs : List ℕ) → is_in xs t ≡ true → is_in (filter p xs) t ≡ true
filter_in p t passes [] inside = inside
filter_in p t passes (x ∷ xs) inside = by (p x) refl (or_cases (x == t) (is_in xs t) inside) (filter_in p t passes xs)
  where
    by : (b : Bool) → p x ≡ b → ((x == t) ≡ true) ⊎ (is_in xs t ≡ true) → (is_in xs t ≡ true → is_in (filter p xs) t ≡ true) → is_in (if b then x ∷ filter p xs else filter p xs) t ≡ true
    by true is (inl at) rest = or_left (x == t) (is_in (filter p xs) t) at
    by true is (inr behind) rest = or_right (x == t) (is_in (filter p xs) t) (rest behind)
    by false is (inl at) rest = absurd (false≢true (sym is ∙ ap p (eqb-true x t at) ∙ passes))
    by false is (inr behind) rest = rest behind

get_or_replicate : (count t : ℕ) → (let none : Option Path = None in get_or (replicate count none) t none ≡ none)
get_or_replicate zero t = refl
get_or_replicate (suc count) zero = refl
get_or_replicate (suc count) (suc t) = get_or_replicate count t

length_reach : (steps least t : ℕ) (paths : List (Option Path)) → length (reach steps least t paths) ≡ length paths
length_reach steps least t paths = length-set paths t (Some (nearer steps least t (get_or paths t None)))

length_reach_each : (steps least : ℕ) (ts : List ℕ) (paths : List (Option Path)) → length (reach_each steps least ts paths) ≡ length paths
length_reach_each steps least [] paths = refl
length_reach_each steps least (t ∷ ts) paths = length_reach_each steps least ts (reach steps least t paths) ∙ length_reach steps least t paths

length_spread : (from : ℕ → List ℕ) (steps : ℕ) (level : List ℕ) (paths : List (Option Path)) → length (spread from steps level paths) ≡ length paths
length_spread from steps [] paths = refl
length_spread from steps (t ∷ level) paths =
    length_spread from steps level (reach_each steps (least_at t paths) (from t) paths) ∙ length_reach_each steps (least_at t paths) (from t) paths

-- ---- paths as lists of the numbers behind the first

module _ (is_before : ℕ → ℕ → Bool) where
  abbrev pub goes : ℕ → List ℕ → ℕ → Bool
  goes from [] to = from == to
  goes from (t ∷ others) to = is_before from t && goes t others to

  pub goes_on : (from v to : ℕ) (xs ys : List ℕ) → goes from xs v ≡ true → goes v ys to ≡ true → goes from (xs ++ ys) to ≡ true
  goes_on from v to [] ys first later = subst (λ t. goes t ys to ≡ true) (sym (eqb-true from v first)) later
  goes_on from v to (t ∷ xs) ys first later =
      let parts = and_parts (is_before from t) (goes t xs v) first in
      and_from (is_before from t) (goes t (xs ++ ys) to) parts.0 (goes_on t v to xs ys parts.1 later)

-- a path of so many steps to a number from another one, by these
pub record Walk (is_before : ℕ → ℕ → Bool) (all : List ℕ) (to steps from : ℕ) : Type 0 where
  pub numbers : List ℕ
  pub leads : goes is_before from numbers to ≡ true
  pub count : length numbers ≡ steps
  pub among : Among all numbers

-- the shortest paths have so many steps, and this is the least number on them
pub record IsPath (is_before : ℕ → ℕ → Bool) (all : List ℕ) (to t steps least : ℕ) : Type 0 where
  pub own : Walk is_before all to steps t
  pub shortest : (j : ℕ) → Walk is_before all to j t → steps ≤ j
  -- it is on one of them
  pub first : ℕ
  pub rest : ℕ
  pub sum : first + rest ≡ steps
  pub here : Walk is_before all least first t
  pub there : Walk is_before all to rest least
  -- none on them is less
  pub bound : (v i j : ℕ) → i + j ≡ steps → Walk is_before all v i t → Walk is_before all to j v → least ≤ v

lesser_cases : (a b : ℕ) → ((lesser a b ≡ a) × (a ≤ b)) ⊎ ((lesser a b ≡ b) × (b ≤ a))
lesser_cases a b = by (nat_lt b a) refl
  where
    by : (c : Bool) → nat_lt b a ≡ c → (((if c then b else a) ≡ a) × (a ≤ b)) ⊎ (((if c then b else a) ≡ b) × (b ≤ a))
    by true is = inr (refl, (let less = ltb-true b a is in omega (arith, less)))
    by false is = inl (refl, ltb-false b a is)

lesser_left : (a b : ℕ) → lesser a b ≤ a
lesser_left a b = elim (lesser_cases a b) [
  | inl one ↦ let is = one.0 in omega (arith, is)
  | inr two ↦ let is = two.0 in let less = two.1 in omega (arith, is, less)
]

lesser_right : (a b : ℕ) → lesser a b ≤ b
lesser_right a b = elim (lesser_cases a b) [
  | inl one ↦ let is = one.0 in let less = one.1 in omega (arith, is, less)
  | inr two ↦ let is = two.0 in omega (arith, is)
]

module _ (is_before : ℕ → ℕ → Bool) (all : List ℕ) where
  abbrev W : ℕ → ℕ → ℕ → Type 0
  W = Walk is_before all

  pub walk_on : (from v to i j : ℕ) → W v i from → W to j v → W to (i + j) from
  walk_on from v to i j first later = record {
    numbers = first.numbers ++ later.numbers;
    leads = goes_on is_before from v to first.numbers later.numbers first.leads later.leads;
    count = (let one = first.count in let two = later.count in omega (arith, length-append first.numbers later.numbers, one, two));
    among = each_append (λ t. is_in all t ≡ true) first.numbers later.numbers first.among later.among;
  }

  pub walk_none : (t : ℕ) → W t 0 t
  walk_none t = record { numbers = []; leads = eq-eqb t t refl; count = refl; among = tt }

  pub walk_step : (to steps from t : ℕ) → is_in all t ≡ true → is_before from t ≡ true → W to steps t → W to (suc steps) from
  walk_step to steps from t inside edge walk = record {
    numbers = t ∷ walk.numbers;
    leads = and_from (is_before from t) (goes is_before t walk.numbers to) edge walk.leads;
    count = ap suc walk.count;
    among = (inside, walk.among);
  }

  -- the first step of a path
  pub record FirstStep (to steps from : ℕ) : Type 0 where
    pub t : ℕ
    pub inside : is_in all t ≡ true
    pub edge : is_before from t ≡ true
    pub rest : W to steps t

  pub first_step : (to steps from : ℕ) → W to (suc steps) from → FirstStep to steps from
  first_step to steps from walk = by walk.numbers walk.leads walk.count walk.among
    where
      by : (numbers : List ℕ) → goes is_before from numbers to ≡ true → length numbers ≡ suc steps → Among all numbers → FirstStep to steps from
      by [] goes count among = absurd (omega (arith, count))
      by (t ∷ others) goes count (inside, among) =
          let parts = and_parts (is_before from t) _ goes in
          record { t = t; inside = inside; edge = parts.0; rest = record { numbers = others; leads = parts.1; count = omega (arith, count); among = among } }

  walk_end : (to from : ℕ) → W to 0 from → from ≡ to
  walk_end to from walk = by walk.numbers walk.leads walk.count
    where
      by : (numbers : List ℕ) → goes is_before from numbers to ≡ true → length numbers ≡ 0 → from ≡ to
      by [] goes count = eqb-true from to goes
      by (t ∷ others) goes count = absurd (omega (arith, count))

  -- the least number on the shortest paths is one
  least_once : (to t steps one two : ℕ) → IsPath is_before all to t steps one → IsPath is_before all to t steps two → one ≤ two
  least_once to t steps one two is other = is.bound two other.first other.rest other.sum other.here other.there

  module _ (to : ℕ) where
    -- no shorter path than this leads there
    pub record AtSteps (steps t : ℕ) : Type 0 where
      pub inside : is_in all t ≡ true
      pub walk : W to steps t
      pub none : (j : ℕ) → W to j t → steps ≤ j

    -- what is known of the paths of at most so many steps
    abbrev pub Known : ℕ → ℕ → Option Path → Type 0
    Known k t None = (j : ℕ) → j ≤ k → W to j t → ⊥
    Known k t (Some path) = (path.steps ≤ k) × IsPath is_before all to t path.steps path.least

    -- a path of one step more, through numbers that were gone through
    record IsNew (k : ℕ) (Done : ℕ → ℕ → Type 0) (t : ℕ) (path : Path) : Type 0 where
      steps : path.steps ≡ suc k
      none : (j : ℕ) → j ≤ k → W to j t → ⊥
      y : ℕ
      l : ℕ
      inside : is_in all y ≡ true
      edge : is_before t y ≡ true
      next : IsPath is_before all to y k l
      least : path.least ≡ lesser t l
      bound : (x m : ℕ) → Done t x → is_before t x ≡ true → IsPath is_before all to x k m → path.least ≤ m

    abbrev Partly : ℕ → (ℕ → ℕ → Type 0) → ℕ → Option Path → Type 0
    Partly k Done t None = ((j : ℕ) → j ≤ k → W to j t → ⊥) × ((x : ℕ) → Done t x → is_before t x ≡ true → ⊥)
    Partly k Done t (Some path) = Known k t (Some path) ⊎ IsNew k Done t path

    -- the paths, and the numbers of one step more, when the steps of some pairs are done
    record State (k : ℕ) (Done : ℕ → ℕ → Type 0) (paths : List (Option Path)) (next : List ℕ) : Type 0 where
      each : (t : ℕ) → is_in all t ≡ true → Partly k Done t (get_or paths t None)
      sound : (t : ℕ) → is_in next t ≡ true → AtSteps (suc k) t
      whole : (t : ℕ) → is_in all t ≡ true → is_none (get_or paths t None) ≡ false → ((j : ℕ) → j ≤ k → W to j t → ⊥) → is_in next t ≡ true

    -- the same where other pairs count as done
    partly_same : (k t : ℕ) (Done Other : ℕ → ℕ → Type 0) → ((x : ℕ) → Other t x → is_before t x ≡ true → Done t x) → (path : Option Path) → Partly k Done t path → Partly k Other t path
    partly_same k t Done Other fewer None (none, done) = (none, λ x other edge. done x (fewer x other edge) edge)
    partly_same k t Done Other fewer (Some path) (inl known) = inl known
    partly_same k t Done Other fewer (Some path) (inr new) =
        inr (record {
          steps = new.steps;
          none = new.none;
          y = new.y;
          l = new.l;
          inside = new.inside;
          edge = new.edge;
          next = new.next;
          least = new.least;
          bound = λ x m other edge is. new.bound x m (fewer x other edge) edge is;
        })

    state_same : (k : ℕ) (Done Other : ℕ → ℕ → Type 0) (paths : List (Option Path)) (next : List ℕ)
        → ((t x : ℕ) → is_in all t ≡ true → Other t x → is_before t x ≡ true → Done t x) → State k Done paths next → State k Other paths next
    state_same k Done Other paths next fewer state = record {
      each = λ t inside. partly_same k t Done Other (λ x. fewer t x inside) (get_or paths t None) (state.each t inside);
      sound = state.sound;
      whole = state.whole;
    }

    -- ---- a number reached through another

    module _ (k : ℕ) where
      not_new : (Done : ℕ → ℕ → Type 0) (t : ℕ) (path : Option Path) → Partly k Done t path → is_none path ≡ true → (j : ℕ) → j ≤ k → W to j t → ⊥
      not_new Done t None (none, done) is = none
      not_new Done t (Some path) partly is = absurd (false≢true is)

      -- a number at so many steps has its paths
      level_path : (Done : ℕ → ℕ → Type 0) (t : ℕ) → AtSteps k t → (paths : List (Option Path)) → Partly k Done t (get_or paths t None) → IsPath is_before all to t k (least_at t paths)
      level_path Done t at paths = by (get_or paths t None)
        where
          by : (path : Option Path) → Partly k Done t path → IsPath is_before all to t k (option_map_or (λ (own : Path). own.least) path t)
          by None (none, done) = absurd (none k (omega arith) at.walk)
          by (Some path) (inl known) =
              let low : path.steps ≤ k = known.0 in
              let high : k ≤ path.steps = at.none path.steps known.1.own in
              subst (λ n. IsPath is_before all to t n path.least) (let same : path.steps ≡ k = omega (arith, low, high) in same) known.1
          by (Some path) (inr new) = absurd (new.none k (omega arith) at.walk)

      module _ (x y l : ℕ) (here : is_in all x ≡ true) (there : is_in all y ≡ true) (edge : is_before x y ≡ true) (is : IsPath is_before all to y k l) where
        least_of : (z m : ℕ) → z ≡ y → IsPath is_before all to z k m → l ≤ m
        least_of z m same other = least_once to y k l m is (subst (λ n. IsPath is_before all to n k m) same other)

        module _ (Done Other : ℕ → ℕ → Type 0) (fewer : (t z : ℕ) → Other t z → Done t z ⊎ ((t ≡ x) × (z ≡ y))) where
          own_path : (path : Option Path) → Partly k Done x path → Partly k Other x (Some (nearer (suc k) l x path))
          own_path None (none, done) = inr (record {
            steps = refl;
            none = none;
            y = y;
            l = l;
            inside = there;
            edge = edge;
            next = is;
            least = refl;
            bound = λ z m other at own. elim (fewer x z other) [
              | inl before ↦ absurd (done z before at)
              | inr two ↦ let low = lesser_right x l in let high = least_of z m two.1 own in omega (arith, low, high)
            ];
          })
          own_path (Some path) (inl known) =
              let low : path.steps ≤ k = known.0 in
              let kept : nearer (suc k) l x (Some path) ≡ path =
              ap (λ (b : Bool). if b then record { steps = suc k; least = lesser path.least l } else path) (ne_eqb path.steps (suc k) (λ same. absurd (omega (arith, same, low)))) in
              subst (λ (own : Path). Partly k Other x (Some own)) (sym kept) (inl known)
          own_path (Some path) (inr new) =
              let kept : nearer (suc k) l x (Some path) ≡ record { steps = suc k; least = lesser path.least l } =
              ap (λ (b : Bool). if b then record { steps = suc k; least = lesser path.least l } else path) (eq-eqb path.steps (suc k) new.steps) in
              subst (λ (own : Path). Partly k Other x (Some own)) (sym kept) (inr (elim (lesser_cases path.least l) [
                | inl one ↦ record {
                  steps = refl;
                  none = new.none;
                  y = new.y;
                  l = new.l;
                  inside = new.inside;
                  edge = new.edge;
                  next = new.next;
                  least = one.0 ∙ new.least;
                  bound = bound new;
                }
                | inr two ↦ record {
                  steps = refl;
                  none = new.none;
                  y = y;
                  l = l;
                  inside = there;
                  edge = edge;
                  next = is;
                  least = two.0 ∙ lesser_is new two.1;
                  bound = bound new;
                }
              ]))
            where
              bound : IsNew k Done x path → (z m : ℕ) → Other x z → is_before x z ≡ true → IsPath is_before all to z k m → lesser path.least l ≤ m
              bound new z m other at own = elim (fewer x z other) [
                | inl before ↦ let low = lesser_left path.least l in let high = new.bound z m before at own in omega (arith, low, high)
                | inr two ↦ let low = lesser_right path.least l in let high = least_of z m two.1 own in omega (arith, low, high)
              ]

              lesser_is : IsNew k Done x path → l ≤ path.least → l ≡ lesser x l
              lesser_is new less =
                  let one : path.least ≤ x = (let is = new.least in let low = lesser_left x new.l in omega (arith, is, low)) in
                  elim (lesser_cases x l) [
                    | inl two ↦ (let at = two.0 in let low = two.1 in omega (arith, at, low, one, less))
                    | inr two ↦ sym two.0
                  ]

          reach_state : (paths : List (Option Path)) (next : List ℕ) → x < length paths → State k Done paths next → State k Other (reach (suc k) l x paths) (next ++ if_fresh x paths)
          reach_state paths next within state = record {
            each = λ t inside. elim (cases_eq t x) [
              | inl same ↦ subst (λ n. Partly k Other n (get_or (reach (suc k) l x paths) n None)) (sym same)
                  (subst (Partly k Other x) (sym (get_or-set_same paths x (Some own) None within)) (own_path (get_or paths x None) (state.each x here)))
              | inr other ↦ subst (Partly k Other t) (sym (get_or-set_other paths x t (Some own) None other))
                  (partly_same k t Done Other (λ z more e. elim (fewer t z more) [ inl before ↦ before | inr two ↦ absurd (other two.0) ]) (get_or paths t None) (state.each t inside))
            ];
            sound = λ t inside. elim (or_cases (is_in next t) (is_in (if_fresh x paths) t) (sym (list_any-append (λ other. other == t) next (if_fresh x paths)) ∙ inside)) [
              | inl old ↦ state.sound t old
              | inr new ↦ fresh_at t (get_or paths x None) (state.each x here) new
            ];
            whole = λ t inside some none. elim (cases_eq t x) [
              | inl same ↦ either t (by_fresh t same (get_or paths x None) (λ own. state.whole t inside (ap (λ n. is_none (get_or paths n None)) same ∙ own) none))
              | inr other ↦ either t (inl (state.whole t inside (ap is_none (sym (get_or-set_other paths x t (Some own) None other)) ∙ some) none))
            ];
          }
            where
              own : Path
              own = nearer (suc k) l x (get_or paths x None)

              either : (t : ℕ) → (is_in next t ≡ true) ⊎ (is_in (if_fresh x paths) t ≡ true) → is_in (next ++ if_fresh x paths) t ≡ true
              either t (inl left) = list_any-append (λ other. other == t) next (if_fresh x paths) ∙ or_left (is_in next t) (is_in (if_fresh x paths) t) left
              either t (inr right) = list_any-append (λ other. other == t) next (if_fresh x paths) ∙ or_right (is_in next t) (is_in (if_fresh x paths) t) right

              by_fresh : (t : ℕ) → t ≡ x → (path : Option Path) → (is_none path ≡ false → is_in next t ≡ true) → (is_in next t ≡ true) ⊎ (is_in (fresh_one x path) t ≡ true)
              by_fresh t same None old = inr (ap (λ b. b || false) (eq-eqb x t (sym same)))
              by_fresh t same (Some path) old = inl (old refl)

              fresh_at : (t : ℕ) (path : Option Path) → Partly k Done x path → is_in (fresh_one x path) t ≡ true → AtSteps (suc k) t
              fresh_at t None (none, done) inside =
                  let same : x ≡ t = eqb-true x t (elim (or_cases (x == t) false inside) [ inl is ↦ is | inr is ↦ absurd (false≢true is) ]) in
                  subst (AtSteps (suc k)) same (record {
                    inside = here;
                    walk = walk_step to k x y there edge is.own;
                    none = λ j walk. elim (cases_lt k j) [ inl less ↦ omega (arith, less) | inr above ↦ absurd (none j above walk) ];
                  })
              fresh_at t (Some path) partly inside = absurd (false≢true inside)

    -- ---- through each number of a level

    module _ (k count : ℕ) (below : (t : ℕ) → is_in all t ≡ true → t < count) where
      each_state : (y l : ℕ) → is_in all y ≡ true → IsPath is_before all to y k l → (xs : List ℕ) → AllByRecursion (λ x. (is_in all x ≡ true) × (is_before x y ≡ true)) xs
          → (Done : ℕ → ℕ → Type 0) (paths : List (Option Path)) (next : List ℕ) → length paths ≡ count → State k Done paths next
          → State k (λ t z. Done t z ⊎ ((z ≡ y) × (is_in xs t ≡ true))) (reach_each (suc k) l xs paths) (next ++ fresh (suc k) l xs paths)
      each_state y l there is [] each Done paths next long state =
          subst (State k (λ t z. Done t z ⊎ ((z ≡ y) × (is_in [] t ≡ true))) paths) (sym (append-nil next))
          (state_same k Done (λ t z. Done t z ⊎ ((z ≡ y) × (is_in [] t ≡ true))) paths next
          (λ t z inside other edge. elim other [ inl before ↦ before | inr two ↦ absurd (false≢true two.1) ]) state)
      each_state y l there is (x ∷ xs) (own, each) Done paths next long state =
          let One : ℕ → ℕ → Type 0 = λ t z. Done t z ⊎ ((t ≡ x) × (z ≡ y)) in
          let within : x < length paths = subst (λ n. x < n) (sym long) (below x own.0) in
          let one = reach_state k x y l own.0 there own.1 is Done One (λ t z is. is) paths next within state in
          let rest = each_state y l there is xs each One (reach (suc k) l x paths) (next ++ if_fresh x paths) (length_reach (suc k) l x paths ∙ long) one in
          subst (State k (λ t z. Done t z ⊎ ((z ≡ y) × (is_in (x ∷ xs) t ≡ true))) (reach_each (suc k) l xs (reach (suc k) l x paths)))
          (append_assoc next (if_fresh x paths) (fresh (suc k) l xs (reach (suc k) l x paths)))
          (state_same k (λ t z. One t z ⊎ ((z ≡ y) × (is_in xs t ≡ true))) (λ t z. Done t z ⊎ ((z ≡ y) × (is_in (x ∷ xs) t ≡ true)))
          (reach_each (suc k) l xs (reach (suc k) l x paths)) ((next ++ if_fresh x paths) ++ fresh (suc k) l xs (reach (suc k) l x paths)) (split x xs Done) rest)
        where
          split : (x : ℕ) (xs : List ℕ) (Done : ℕ → ℕ → Type 0) (t z : ℕ) → is_in all t ≡ true → Done t z ⊎ ((z ≡ y) × (is_in (x ∷ xs) t ≡ true)) → is_before t z ≡ true
              → (Done t z ⊎ ((t ≡ x) × (z ≡ y))) ⊎ ((z ≡ y) × (is_in xs t ≡ true))
          split x xs Done t z inside (inl before) edge = inl (inl before)
          split x xs Done t z inside (inr two) edge = elim (or_cases (x == t) (is_in xs t) two.1) [
            | inl at ↦ inl (inr (sym (eqb-true x t at), two.0))
            | inr behind ↦ inr (two.0, behind)
          ]

      module _ (from : ℕ → List ℕ) (lists : (y : ℕ) → y < count → from y ≡ before is_before all y) where
        level_state : (ys : List ℕ) → AllByRecursion (AtSteps k) ys → (Done : ℕ → ℕ → Type 0) (paths : List (Option Path)) (next : List ℕ) → length paths ≡ count → State k Done paths next
            → State k (λ t z. Done t z ⊎ (is_in ys z ≡ true)) (spread from (suc k) ys paths) (next ++ next_level from (suc k) ys paths)
        level_state [] each Done paths next long state =
            subst (State k (λ t z. Done t z ⊎ (is_in [] z ≡ true)) paths) (sym (append-nil next))
            (state_same k Done (λ t z. Done t z ⊎ (is_in [] z ≡ true)) paths next
            (λ t z inside other edge. elim other [ inl before ↦ before | inr none ↦ absurd (false≢true none) ]) state)
        level_state (y ∷ ys) (at, each) Done paths next long state =
            let l : ℕ = least_at y paths in
            let One : ℕ → ℕ → Type 0 = λ t z. Done t z ⊎ (z ≡ y) in
            let is : IsPath is_before all to y k l = level_path k Done y at paths (state.each y at.inside) in
            let whole : from y ≡ filter (λ x. is_before x y) all = lists y (below y at.inside) in
            let among : AllByRecursion (λ x. (is_in all x ≡ true) × (is_before x y ≡ true)) (from y) =
            subst (AllByRecursion (λ x. (is_in all x ≡ true) × (is_before x y ≡ true))) (sym whole) (filter_each (λ x. is_in all x ≡ true) (λ x. is_before x y) all (itself_in all)) in
            let paths-now : List (Option Path) = reach_each (suc k) l (from y) paths in
            let next-now : List ℕ = next ++ fresh (suc k) l (from y) paths in
            let one : State k One paths-now next-now =
            state_same k (λ t z. Done t z ⊎ ((z ≡ y) × (is_in (from y) t ≡ true))) One paths-now next-now (through y whole Done)
            (each_state y l at.inside is (from y) among Done paths next long state) in
            let rest = level_state ys each One paths-now next-now (length_reach_each (suc k) l (from y) paths ∙ long) one in
            subst (State k (λ t z. Done t z ⊎ (is_in (y ∷ ys) z ≡ true)) (spread from (suc k) ys paths-now)) (append_assoc next (fresh (suc k) l (from y) paths) (next_level from (suc k) ys paths-now))
            (state_same k (λ t z. One t z ⊎ (is_in ys z ≡ true)) (λ t z. Done t z ⊎ (is_in (y ∷ ys) z ≡ true)) (spread from (suc k) ys paths-now)
            (next-now ++ next_level from (suc k) ys paths-now) (split y ys Done) rest)
          where
            through : (y : ℕ) → from y ≡ filter (λ x. is_before x y) all → (Done : ℕ → ℕ → Type 0) (t z : ℕ) → is_in all t ≡ true → Done t z ⊎ (z ≡ y) → is_before t z ≡ true
                → Done t z ⊎ ((z ≡ y) × (is_in (from y) t ≡ true))
            through y whole Done t z inside (inl before) edge = inl before
            through y whole Done t z inside (inr same) edge =
                inr (same, ap (λ list. is_in list t) whole ∙ filter_in (λ x. is_before x y) t (subst (λ n. is_before t n ≡ true) same edge) all inside)

            split : (y : ℕ) (ys : List ℕ) (Done : ℕ → ℕ → Type 0) (t z : ℕ) → is_in all t ≡ true → Done t z ⊎ (is_in (y ∷ ys) z ≡ true) → is_before t z ≡ true
                → (Done t z ⊎ (z ≡ y)) ⊎ (is_in ys z ≡ true)
            split y ys Done t z inside (inl before) edge = inl (inl before)
            split y ys Done t z inside (inr own) edge = elim (or_cases (y == z) (is_in ys z) own) [
              | inl at ↦ inl (inr (sym (eqb-true y z at)))
              | inr behind ↦ inr behind
            ]

    -- ---- the next level

    module _ (k : ℕ) (level : List ℕ) (whole : (z : ℕ) → AtSteps k z → is_in level z ≡ true) (found : (z : ℕ) → AtSteps k z → (m : ℕ) × IsPath is_before all to z k m) where
      -- the next number on a path of one step more is of the level
      at_next : (t z : ℕ) → ((j : ℕ) → j ≤ k → W to j t → ⊥) → is_in all z ≡ true → is_before t z ≡ true → W to k z → AtSteps k z
      at_next t z none inside edge walk = record {
        inside = inside;
        walk = walk;
        none = λ j own. elim (cases_lt j k) [
          | inl less ↦ absurd (none (suc j) (omega (arith, less)) (walk_step to j t z inside edge own))
          | inr above ↦ above
        ];
      }

      new_path : (t : ℕ) (path : Path) → IsNew k (λ t z. is_in level z ≡ true) t path → IsPath is_before all to t (suc k) path.least
      new_path t path new = elim (lesser_cases t new.l) [
        | inl one ↦
            let same : path.least ≡ t = new.least ∙ one.0 in
            record {
              own = own;
              shortest = shortest;
              first = 0;
              rest = suc k;
              sum = (let sum : 0 + suc k ≡ suc k = omega arith in sum);
              here = subst (λ n. W n 0 t) (sym same) (walk_none t);
              there = subst (λ n. W to (suc k) n) (sym same) own;
              bound = bound;
            }
        | inr two ↦
            let same : path.least ≡ new.l = new.least ∙ two.0 in
            record {
              own = own;
              shortest = shortest;
              first = suc new.next.first;
              rest = new.next.rest;
              sum = (let sum = new.next.sum in omega (arith, sum));
              here = subst (λ n. W n (suc new.next.first) t) (sym same) (walk_step new.l new.next.first t new.y new.inside new.edge new.next.here);
              there = subst (W to new.next.rest) (sym same) new.next.there;
              bound = bound;
            }
      ]
        where
          own : W to (suc k) t
          own = walk_step to k t new.y new.inside new.edge new.next.own

          shortest : (j : ℕ) → W to j t → suc k ≤ j
          shortest j walk = elim (cases_lt k j) [ inl less ↦ omega (arith, less) | inr above ↦ absurd (new.none j above walk) ]

          bound : (v i j : ℕ) → i + j ≡ suc k → W v i t → W to j v → path.least ≤ v
          bound v zero j sum here there =
              let same : t ≡ v = walk_end v t here in
              let low = lesser_left t new.l in
              let is = new.least in
              omega (arith, same, low, is)
          bound v (suc i) j sum here there =
              let step = first_step v i t here in
              let less : i + j ≡ k = omega (arith, sum) in
              let at = at_next t step.t new.none step.inside step.edge (subst (λ n. W to n step.t) less (walk_on step.t v to i j step.rest there)) in
              let is = found step.t at in
              let low = new.bound step.t is.0 (whole step.t at) step.edge is.1 in
              let high = is.1.bound v i j less step.rest there in
              omega (arith, low, high)

      known_next : (t : ℕ) (path : Option Path) → Partly k (λ t z. is_in level z ≡ true) t path → Known (suc k) t path
      known_next t None (none, done) = λ j low walk. elim (cases_lt k j) [
        | inl less ↦
            let step = first_step to k t (subst (λ n. W to n t) (let same : j ≡ suc k = omega (arith, low, less) in same) walk) in
            done step.t (whole step.t (at_next t step.t none step.inside step.edge step.rest)) step.edge
        | inr above ↦ none j above walk
      ]
      known_next t (Some path) (inl known) = ((let low = known.0 in omega (arith, low)), known.1)
      known_next t (Some path) (inr new) =
          let is = new.steps in
          (omega (arith, is), subst (λ n. IsPath is_before all to t n path.least) (sym is) (new_path t path new))

    -- ---- all levels

    module _ (count : ℕ) (below : (t : ℕ) → is_in all t ≡ true → t < count) (from : ℕ → List ℕ) (lists : (y : ℕ) → y < count → from y ≡ before is_before all y) where
      start : (k t : ℕ) (path : Option Path) → Known k t path → Partly k (λ t z. is_in [] z ≡ true) t path
      start k t None none = (none, λ x done edge. false≢true done)
      start k t (Some path) known = inl known

      has_path : (k t : ℕ) (path : Option Path) → Known k t path → AtSteps k t → is_none path ≡ false
      has_path k t None none at = absurd (none k (omega arith) at.walk)
      has_path k t (Some path) known at = refl

      no_path : (k t : ℕ) (path : Option Path) → Known k t path → is_none path ≡ false → ((j : ℕ) → j ≤ k → W to j t → ⊥) → ⊥
      no_path k t None known some none = false≢true (sym some)
      no_path k t (Some path) known some none = none path.steps known.0 known.1.own

      levels : (more k : ℕ) (level : List ℕ) (paths : List (Option Path)) → length paths ≡ count → ((t : ℕ) → is_in all t ≡ true → Known k t (get_or paths t None))
          → AllByRecursion (AtSteps k) level → ((z : ℕ) → AtSteps k z → is_in level z ≡ true)
          → (t : ℕ) → is_in all t ≡ true → Known (k + more) t (get_or (paths_from from more k level paths) t None)
      levels zero k level paths long known each whole t inside =
          subst (λ n. Known n t (get_or paths t None)) (let same : k ≡ k + 0 = omega arith in same) (known t inside)
      levels (suc more) k level paths long known each whole t inside =
          subst (λ n. Known n t (get_or (paths_from from more (suc k) later after) t None)) (let same : suc k + more ≡ k + suc more = omega arith in same)
          (levels more (suc k) later after (length_spread from (suc k) level paths ∙ long) next (each_from (AtSteps (suc k)) later (λ z there. state.sound z (in_from later z there))) more-whole t inside)
        where
          later : List ℕ
          later = next_level from (suc k) level paths

          after : List (Option Path)
          after = spread from (suc k) level paths

          first : State k (λ t z. is_in [] z ≡ true) paths []
          first = record {
            each = λ t inside. start k t (get_or paths t None) (known t inside);
            sound = λ t there. absurd (false≢true there);
            whole = λ t inside some none. absurd (no_path k t (get_or paths t None) (known t inside) some none);
          }

          state : State k (λ t z. is_in level z ≡ true) after later
          state =
              state_same k (λ t z. (is_in [] z ≡ true) ⊎ (is_in level z ≡ true)) (λ t z. is_in level z ≡ true) after later (λ t z inside done edge. inr done)
              (level_state k count below from lists level each (λ t z. is_in [] z ≡ true) paths [] long first)

          found : (z : ℕ) → AtSteps k z → (m : ℕ) × IsPath is_before all to z k m
          found z at = (least_at z paths, level_path k (λ t z. is_in [] z ≡ true) z at paths (start k z (get_or paths z None) (known z at.inside)))

          next : (t : ℕ) → is_in all t ≡ true → Known (suc k) t (get_or after t None)
          next t inside = known_next k level whole found t (get_or after t None) (state.each t inside)

          more-whole : (z : ℕ) → AtSteps (suc k) z → is_in later z ≡ true
          more-whole z at =
              state.whole z at.inside (has_path (suc k) z (get_or after z None) (next z at.inside) at) (λ j low walk. let high = at.none j walk in omega (arith, low, high))

      -- the paths that are found are the shortest, and all of so many steps are found
      pub paths_known : is_in all to ≡ true → (most t : ℕ) → is_in all t ≡ true → Known most t (get_or (paths_to from count most to) t None)
      paths_known here most t inside =
          subst (λ n. Known n t (get_or (paths_to from count most to) t None)) (let same : 0 + most ≡ most = omega arith in same)
          (levels most 0 (to ∷ []) begun (length-set (replicate count None) to (Some own) ∙ length-replicate count None) known (at-start, tt) whole t inside)
        where
          own : Path
          own = record { steps = 0; least = to }

          begun : List (Option Path)
          begun = set (replicate count None) to (Some own)

          at-start : AtSteps 0 to
          at-start = record { inside = here; walk = walk_none to; none = λ j walk. omega arith }

          is-path : IsPath is_before all to to 0 to
          is-path = record {
            own = walk_none to;
            shortest = λ j walk. omega arith;
            first = 0;
            rest = 0;
            sum = refl;
            here = walk_none to;
            there = walk_none to;
            bound = λ v i j sum first later.
                let none : i ≡ 0 = omega (arith, sum) in
                let same = walk_end v to (subst (λ n. W v n to) none first) in
                omega (arith, same);
          }

          known : (t : ℕ) → is_in all t ≡ true → Known 0 t (get_or begun t None)
          known t inside = elim (cases_eq t to) [
            | inl same ↦ subst (λ n. Known 0 n (get_or begun n None)) (sym same)
                (subst (Known 0 to) (sym (get_or-set_same (replicate count None) to (Some own) None (subst (λ n. to < n) (sym (length-replicate count None)) (below to here))))
                ((let low : 0 ≤ 0 = omega arith in low), is-path))
            | inr other ↦ subst (Known 0 t) (sym (get_or-set_other (replicate count None) to t (Some own) None other ∙ get_or_replicate count t))
                (λ j low walk. other (walk_end to t (subst (λ n. W to n t) (let none : j ≡ 0 = omega (arith, low) in none) walk)))
          ]

          whole : (z : ℕ) → AtSteps 0 z → is_in (to ∷ []) z ≡ true
          whole z at = ap (λ b. b || false) (eq-eqb to z (sym (walk_end to z at.walk)))
