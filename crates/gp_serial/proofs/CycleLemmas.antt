-- The search by levels finds the first cycle of a length that begins at a number, and so the first of the shortest ones.
use Rattle.gp_serial.proofs.Prelude.{◌≡◌, ◌<◌, ◌≤◌, ◌-◌, ℕ, zero, suc, Bool, true, false, cond, List, [], ◌∷◌, ◌++◌, map, length, drop, get_or, Option, Some, None, refl, sym, ap, ◌∙◌, subst, arith, ◌&&◌, ◌||◌, find, slice_get, unwrap_or, flat_map, list_any, option_map, option_map_or, option_or, false≢true, drop_more, get_or-map, get_or_append_left, length-map, find-append, get_or_from_slice_get, none-some, same_Some, slice_get_within, numbers}
use Rattle.std.proofs.Common.{append_assoc}
use Rattle.std.specs.Prelude.{◌+◌, is_some}
use borrow.Author.Count.{below_more}
use Rattle.std.proofs.lemmas.List.{get_or_push, length_push}
use Rattle.gp_serial.specs.CycleForms.{AreLevels, AreReaching, first_cycle, first_step, first_walk, reaches, shortest_for, shortest_from}
use Rattle.gp_serial.specs.Graphs.{closes, is_cycle, least_cycle, lists_of}

-- ---- the first that passes

pub find_map : {A B : Type 0} (p : B → Bool) (f : A → B) (xs : List A) → find p (map f xs) ≡ option_map f (find (λ x. p (f x)) xs)
find_map p f [] = refl
find_map p f (x ∷ xs) = by (p (f x)) (find_map p f xs)
  where
    by : (b : Bool) → find p (map f xs) ≡ option_map f (find (λ x. p (f x)) xs) → cond b (Some (f x)) (find p (map f xs)) ≡ option_map f (cond b (Some x) (find (λ x. p (f x)) xs))
    by true rest = refl
    by false rest = rest

find_none : {A : Type 0} (xs : List A) → find (λ x. false) xs ≡ None
find_none [] = refl
find_none (x ∷ xs) = find_none xs

-- ---- numbers from the first

-- the next numbers, this many
abbrev pub next_numbers : ℕ → ℕ → List ℕ
next_numbers zero count = []
next_numbers (suc more) count = suc count ∷ next_numbers more (suc count)

next_last : (more count : ℕ) → next_numbers (suc more) count ≡ next_numbers more count ++ suc (more + count) ∷ []
next_last zero count = let same : suc count ≡ suc (zero + count) = omega arith in ap (λ n. n ∷ []) same
next_last (suc more) count =
    ap (λ others. suc count ∷ others)
    (next_last more (suc count) ∙ (let same : suc (more + suc count) ≡ suc (suc more + count) = omega arith in ap (λ n. next_numbers more (suc count) ++ n ∷ []) same))

pub numbers_next : (n : ℕ) → numbers n ≡ next_numbers n 0
numbers_next zero = refl
numbers_next (suc n) =
    (let same : suc n ≡ suc (n + 0) = omega arith in λ i. numbers_next n i ++ same i ∷ []) ∙ sym (next_last n 0)

-- ---- the first step over numbers and their flags

module _ (is_before : ℕ → ℕ → Bool) (from : ℕ) where
  step_unflagged : (tos : List ℕ) → first_step is_before from tos [] ≡ None
  step_unflagged [] = refl
  step_unflagged (to ∷ tos) = refl

  pub step_turns : (place : ℕ) (tos : List ℕ) (flags : List Bool) → place < length tos
      → first_step is_before from (drop place tos) (drop place flags)
      ≡ cond (get_or flags place false && is_before from (get_or tos place 0)) (Some (get_or tos place 0)) (first_step is_before from (drop (suc place) tos) (drop (suc place) flags))
  step_turns place [] flags within = absurd (omega (arith, within))
  step_turns zero (to ∷ tos) [] within = sym (step_unflagged tos)
  step_turns zero (to ∷ tos) (flag ∷ flags) within = refl
  step_turns (suc place) (to ∷ tos) [] within = step_unflagged (drop place tos) ∙ sym (step_unflagged (drop (suc place) tos))
  step_turns (suc place) (to ∷ tos) (flag ∷ flags) within = step_turns place tos flags (omega (arith, within))

  pub step_passes : (place : ℕ) (tos : List ℕ) (flags : List Bool) → place < length tos → (get_or flags place false && is_before from (get_or tos place 0)) ≡ false
      → first_step is_before from (drop (place + 1) tos) (drop (place + 1) flags) ≡ first_step is_before from (drop place tos) (drop place flags)
  step_passes place tos flags within fails =
      let next : place + 1 ≡ suc place = omega arith in
      (λ i. first_step is_before from (drop (next i) tos) (drop (next i) flags))
      ∙ ap (λ b. cond b (Some (get_or tos place 0)) (first_step is_before from (drop (suc place) tos) (drop (suc place) flags))) (sym fails)
      ∙ sym (step_turns place tos flags within)

-- ---- the last of some levels

pub last_read : {V : Type 0} (flags : V → List Bool) (levels : List V) (level : V) → Some level ≡ slice_get levels (length levels - 1)
    → (length (map flags levels) ≡ suc (length levels - 1)) × (get_or (map flags levels) (length levels - 1) [] ≡ flags level)
last_read flags levels level e =
    let more = length levels - 1 in
    let within : more < length levels = slice_get_within levels more level (sym e) in
    let long : length levels ≡ suc more = omega (arith, within) in
    (length-map levels flags ∙ long, get_or-map flags levels more level [] within ∙ ap flags (get_or_from_slice_get levels more level level (sym e)))

-- ---- paths to a number

module _ (is_before : ℕ → ℕ → Bool) (all : List ℕ) where
  module _ (last : ℕ) where
    -- the first numbers, this many, through which a number reaches the last one
    abbrev pub first_path : ℕ → ℕ → Option (List ℕ)
    first_path steps from = find (λ others. closes is_before last (from ∷ others)) (lists_of steps all)

    -- those that begin with a number
    abbrev path_by : ℕ → ℕ → ℕ → Option (List ℕ)
    path_by steps from to = cond (is_before from to) (option_map (λ others. to ∷ others) (first_path steps to)) None

    -- those that begin with one of these
    abbrev paths_by : ℕ → ℕ → List ℕ → Option (List ℕ)
    paths_by steps from [] = None
    paths_by steps from (to ∷ tos) = option_or (path_by steps from to) (paths_by steps from tos)

    by_first : (steps from to : ℕ) → find (λ others. closes is_before last (from ∷ others)) (map (λ others. to ∷ others) (lists_of steps all)) ≡ path_by steps from to
    by_first steps from to =
        find_map (λ others. closes is_before last (from ∷ others)) (λ others. to ∷ others) (lists_of steps all)
        ∙ by (is_before from to)
      where
        by : (b : Bool) → option_map (λ (others : List ℕ). to ∷ others) (find (λ others. b && closes is_before last (to ∷ others)) (lists_of steps all))
            ≡ cond b (option_map (λ (others : List ℕ). to ∷ others) (first_path steps to)) None
        by true = refl
        by false = ap (option_map (λ (others : List ℕ). to ∷ others)) (find_none (lists_of steps all))

    by_each : (steps from : ℕ) (tos : List ℕ)
        → find (λ others. closes is_before last (from ∷ others)) (flat_map (λ first. map (λ others. first ∷ others) (lists_of steps all)) tos) ≡ paths_by steps from tos
    by_each steps from [] = refl
    by_each steps from (to ∷ tos) =
        find-append (λ others. closes is_before last (from ∷ others)) (map (λ others. to ∷ others) (lists_of steps all)) (flat_map (λ first. map (λ others. first ∷ others) (lists_of steps all)) tos)
        ∙ (λ i. option_or (by_first steps from to i) (by_each steps from tos i))

    -- a path of one more number
    path_is : (steps from : ℕ) → first_path (suc steps) from ≡ paths_by steps from all
    path_is steps from = by_each steps from all

    -- a number reaches the last one where there is a path
    pub reaches_is : (steps from : ℕ) → reaches is_before all last steps from ≡ is_some (first_path steps from)
    reaches_is zero from = by (is_before from last) []
      where
        by : (b : Bool) (own : List ℕ) → b ≡ is_some (cond b (Some own) None)
        by true own = refl
        by false own = refl
    reaches_is (suc steps) from = among (reaches_is steps) all ∙ ap is_some (sym (path_is steps from))
      where
        some : (b : Bool) (path : Option (List ℕ)) (to : ℕ) (others : Option (List ℕ))
            → (b && is_some path) || is_some others ≡ is_some (option_or (cond b (option_map (λ (own : List ℕ). to ∷ own) path) None) others)
        some true (Some path) to others = refl
        some true None to others = refl
        some false path to others = refl

        among : ((to : ℕ) → reaches is_before all last steps to ≡ is_some (first_path steps to)) → (tos : List ℕ)
            → list_any (λ to. is_before from to && reaches is_before all last steps to) tos ≡ is_some (paths_by steps from tos)
        among fewer [] = refl
        among fewer (to ∷ tos) =
            (λ i. (is_before from to && fewer to i) || among fewer tos i) ∙ some (is_before from to) (first_path steps to) to (paths_by steps from tos)

    -- the first step of the first path
    pub step_some : (steps from to : ℕ) → first_step is_before from all (map (reaches is_before all last steps) all) ≡ Some to
        → first_path (suc steps) from ≡ option_map (λ others. to ∷ others) (first_path steps to)
    step_some steps from to e = path_is steps from ∙ among all e
      where
        among : (tos : List ℕ) → first_step is_before from tos (map (reaches is_before all last steps) tos) ≡ Some to
            → paths_by steps from tos ≡ option_map (λ (others : List ℕ). to ∷ others) (first_path steps to)
        among [] e = absurd cc
        among (next ∷ tos) e = by (is_before from next) (reaches is_before all last steps next) (first_path steps next) refl (reaches_is steps next) e (among tos)
          where
            by : (b r : Bool) (path : Option (List ℕ)) → first_path steps next ≡ path → r ≡ is_some path
                → cond (r && b) (Some next) (first_step is_before from tos (map (reaches is_before all last steps) tos)) ≡ Some to
                → (first_step is_before from tos (map (reaches is_before all last steps) tos) ≡ Some to → paths_by steps from tos ≡ option_map (λ (others : List ℕ). to ∷ others) (first_path steps to))
                → option_or (cond b (option_map (λ (others : List ℕ). next ∷ others) path) None) (paths_by steps from tos)
                ≡ option_map (λ (others : List ℕ). to ∷ others) (first_path steps to)
            by true true (Some own) here is e rest =
                ap (option_map (λ (others : List ℕ). next ∷ others)) (sym here) ∙ ap (λ n. option_map (λ (others : List ℕ). n ∷ others) (first_path steps n)) (same_Some next to e)
            by true true None here is e rest = absurd (false≢true (sym is))
            by true false (Some own) here is e rest = absurd (false≢true is)
            by true false None here is e rest = rest e
            by false true path here is e rest = rest e
            by false false path here is e rest = rest e

    pub step_none : (steps from : ℕ) → first_step is_before from all (map (reaches is_before all last steps) all) ≡ None → first_path (suc steps) from ≡ None
    step_none steps from e = path_is steps from ∙ among all e
      where
        among : (tos : List ℕ) → first_step is_before from tos (map (reaches is_before all last steps) tos) ≡ None → paths_by steps from tos ≡ None
        among [] e = refl
        among (next ∷ tos) e = by (is_before from next) (reaches is_before all last steps next) (first_path steps next) (reaches_is steps next) e (among tos)
          where
            by : (b r : Bool) (path : Option (List ℕ)) → r ≡ is_some path → cond (r && b) (Some next) (first_step is_before from tos (map (reaches is_before all last steps) tos)) ≡ None
                → (first_step is_before from tos (map (reaches is_before all last steps) tos) ≡ None → paths_by steps from tos ≡ None)
                → option_or (cond b (option_map (λ (others : List ℕ). next ∷ others) path) None) (paths_by steps from tos) ≡ None
            by true true path is e rest = absurd (none-some next (sym e))
            by true false (Some own) is e rest = absurd (false≢true is)
            by true false None is e rest = rest e
            by false true path is e rest = rest e
            by false false path is e rest = rest e

    -- a number reaches the last one by one more where there is such a first step
    pub leads_is : (steps from : ℕ) → is_some (first_step is_before from all (map (reaches is_before all last steps) all)) ≡ reaches is_before all last (suc steps) from
    leads_is steps from = among all
      where
        by : (b r : Bool) (to : ℕ) (found : Option ℕ) → is_some (cond (r && b) (Some to) found) ≡ (b && r) || is_some found
        by true true to found = refl
        by true false to found = refl
        by false true to found = refl
        by false false to found = refl

        among : (tos : List ℕ) → is_some (first_step is_before from tos (map (reaches is_before all last steps) tos)) ≡ list_any (λ to. is_before from to && reaches is_before all last steps to) tos
        among [] = refl
        among (to ∷ tos) =
            by (is_before from to) (reaches is_before all last steps to) to (first_step is_before from tos (map (reaches is_before all last steps) tos))
            ∙ ap (λ rest. (is_before from to && reaches is_before all last steps to) || rest) (among tos)

    pub level_next : (steps more : ℕ) (levels : List (List Bool)) → AreLevels is_before all last steps levels → length levels ≡ suc more
        → map (λ from. is_some (first_step is_before from all (get_or levels more []))) all ≡ map (reaches is_before all last steps) all
    level_next steps more levels are long =
        let one : suc more ≡ steps = omega (arith, long, are.count) in
        let below : more < steps = omega (arith, one) in
        ap (λ flags. map (λ from. is_some (first_step is_before from all flags)) all) (are.each more below)
        ∙ (λ i. map (λ from. leads_is more from i) all)
        ∙ ap (λ n. map (reaches is_before all last n) all) one

    pub level_at : {V : Type 0} (flags : V → List Bool) (steps below : ℕ) (levels : List V) (level : V) → AreLevels is_before all last below (map flags levels) → steps < below
        → level ≡ get_or levels steps level → flags level ≡ map (reaches is_before all last steps) all
    level_at flags steps below levels level are less is =
        let within : steps < length levels = omega (arith, less, are.count, length-map levels flags) in
        ap flags is ∙ sym (get_or-map flags levels steps level [] within) ∙ are.each steps less

    pub level_pushed : (steps : ℕ) (levels : List (List Bool)) (flags : List Bool) → AreLevels is_before all last steps levels → AreReaching is_before all last steps flags
        → AreLevels is_before all last (steps + 1) (levels ++ flags ∷ [])
    level_pushed steps levels flags are own = record {
      count = length_push levels flags ∙ ap (λ n. n + 1) are.count;
      each = below_more (λ n. AreReaching is_before all last n (get_or (levels ++ flags ∷ []) n [])) steps
          (λ n below. get_or_append_left levels (flags ∷ []) [] n (subst (λ m. n < m) (sym are.count) below) ∙ are.each n below)
          (get_or_push levels flags [] steps are.count ∙ own);
    }

  -- ---- cycles

  -- a cycle that begins at a number is a path back to it
  pub walk_begins : (first count : ℕ) → 0 < count → option_map (λ (others : List ℕ). first ∷ others) (first_path first (count - 1) first) ≡ first_walk is_before all first count
  walk_begins first zero some = absurd (omega (arith, some))
  walk_begins first (suc more) some =
      ap (λ n. option_map (λ (others : List ℕ). first ∷ others) (first_path first n first)) (let less : suc more - 1 ≡ more = omega arith in less)
      ∙ sym (find_map (closes is_before first) (λ others. first ∷ others) (lists_of more all))

  -- a path that goes on, behind the numbers so far
  pub walk_goes : (first last next left steps : ℕ) (cycle : List ℕ) → left ≡ suc steps
      → first_step is_before last all (map (reaches is_before all first steps) all) ≡ Some next
      → option_map (λ (others : List ℕ). (cycle ++ next ∷ []) ++ others) (first_path first steps next) ≡ option_map (λ (others : List ℕ). cycle ++ others) (first_path first left last)
  walk_goes first last next left steps cycle one step =
      by (first_path first steps next)
      ∙ ap (option_map (λ (others : List ℕ). cycle ++ others)) (sym (step_some first steps last next step))
      ∙ ap (λ n. option_map (λ (others : List ℕ). cycle ++ others) (first_path first n last)) (sym one)
    where
      by : (path : Option (List ℕ)) → option_map (λ (others : List ℕ). (cycle ++ next ∷ []) ++ others) path
          ≡ option_map (λ (others : List ℕ). cycle ++ others) (option_map (λ (others : List ℕ). next ∷ others) path)
      by None = refl
      by (Some others) = ap Some (append_assoc cycle (next ∷ []) others)

  pub walk_stops : (first last left steps : ℕ) (cycle : List ℕ) → left ≡ suc steps → first_step is_before last all (map (reaches is_before all first steps) all) ≡ None
      → option_map (λ (others : List ℕ). cycle ++ others) (first_path first left last) ≡ None
  walk_stops first last left steps cycle one step =
      ap (λ n. option_map (λ (others : List ℕ). cycle ++ others) (first_path first n last)) one ∙ ap (option_map (λ (others : List ℕ). cycle ++ others)) (step_none first steps last step)

  -- the first cycle that begins at one of these numbers
  pub cycle_is : (more : ℕ) (firsts : List ℕ) → first_cycle is_before all (suc more) firsts
      ≡ find (is_cycle is_before) (flat_map (λ first. map (λ others. first ∷ others) (lists_of more all)) firsts)
  cycle_is more [] = refl
  cycle_is more (first ∷ firsts) =
      (λ i. option_or (begins (lists_of more all) i) (cycle_is more firsts i))
      ∙ sym (find-append (is_cycle is_before) (map (λ others. first ∷ others) (lists_of more all)) (flat_map (λ first. map (λ others. first ∷ others) (lists_of more all)) firsts))
    where
      begins : (lists : List (List ℕ)) → find (closes is_before first) (map (λ others. first ∷ others) lists) ≡ find (is_cycle is_before) (map (λ others. first ∷ others) lists)
      begins [] = refl
      begins (others ∷ lists) = ap (cond (closes is_before first (first ∷ others)) (Some (first ∷ others))) (begins lists)

  -- ---- the shortest ones

  shortest_next : (more count : ℕ) → shortest_for is_before all more count ≡ unwrap_or (find (is_cycle is_before) (flat_map (λ n. lists_of n all) (next_numbers more count))) []
  shortest_next zero count = refl
  shortest_next (suc more) count =
      (λ i. option_map_or (λ (cycle : List ℕ). cycle) (cycle_is count all i) (shortest_next more (suc count) i))
      ∙ by (find (is_cycle is_before) (lists_of (suc count) all))
      ∙ ap (λ (found : Option (List ℕ)). unwrap_or found []) (sym (find-append (is_cycle is_before) (lists_of (suc count) all) (flat_map (λ n. lists_of n all) (next_numbers more (suc count)))))
    where
      by : (found : Option (List ℕ)) → option_map_or (λ (cycle : List ℕ). cycle) found (unwrap_or (find (is_cycle is_before) (flat_map (λ n. lists_of n all) (next_numbers more (suc count)))) [])
          ≡ unwrap_or (option_or found (find (is_cycle is_before) (flat_map (λ n. lists_of n all) (next_numbers more (suc count))))) []
      by None = refl
      by (Some cycle) = refl

  pub shortest_is : shortest_for is_before all (length all) 0 ≡ least_cycle is_before all
  shortest_is = shortest_next (length all) 0 ∙ ap (λ lengths. unwrap_or (find (is_cycle is_before) (flat_map (λ n. lists_of n all) lengths)) []) (sym (numbers_next (length all)))

  -- ---- by lengths, and by the numbers that a cycle begins with

  pub cycle_found : (count : ℕ) → 0 < count → first_cycle is_before all count all ≡ find (is_cycle is_before) (lists_of count all)
  cycle_found zero some = absurd (omega (arith, some))
  cycle_found (suc more) some = cycle_is more all

  pub cycle_here : (count i : ℕ) (firsts : List ℕ) (found : Option (List ℕ)) → i < length firsts → first_walk is_before all (get_or firsts i 0) count ≡ found
      → first_cycle is_before all count (drop i firsts) ≡ option_or found (first_cycle is_before all count (drop (i + 1) firsts))
  cycle_here count i firsts found within is =
      ap (first_cycle is_before all count) (drop_more firsts i 0 within) ∙ ap (λ (own : Option (List ℕ)). option_or own (first_cycle is_before all count (drop (i + 1) firsts))) is

  pub shortest_here : (count : ℕ) (found : Option (List ℕ)) → count < length all → find (is_cycle is_before) (lists_of (count + 1) all) ≡ found
      → shortest_from is_before all count ≡ option_map_or (λ (cycle : List ℕ). cycle) found (shortest_from is_before all (count + 1))
  shortest_here count found within is =
      let next : suc count ≡ count + 1 = omega arith in
      let more : length all - count ≡ suc (length all - (count + 1)) = omega (arith, within) in
      ap (λ n. shortest_for is_before all n count) more
      ∙ ap (λ (own : Option (List ℕ)). option_map_or (λ (cycle : List ℕ). cycle) own (shortest_for is_before all (length all - (count + 1)) (suc count)))
      (cycle_is count all ∙ ap (λ n. find (is_cycle is_before) (lists_of n all)) next ∙ is)
      ∙ ap (λ n. option_map_or (λ (cycle : List ℕ). cycle) found (shortest_for is_before all (length all - (count + 1)) n)) next

  pub shortest_none : (count : ℕ) → length all ≤ count → shortest_from is_before all count ≡ []
  shortest_none count past = ap (λ n. shortest_for is_before all n count) (let none : length all - count ≡ 0 = omega (arith, past) in none)

  pub shortest_first : shortest_from is_before all 0 ≡ least_cycle is_before all
  shortest_first = ap (λ n. shortest_for is_before all n 0) (let whole : length all - 0 ≡ length all = omega arith in whole) ∙ shortest_is
