-- A list of more numbers than there are has one of them twice, and a cycle with a number twice has a shorter one in it.
use Rattle.gp_serial.proofs.Prelude.{◌≡◌, ◌<◌, ◌≤◌, ◌+◌, ℕ, zero, suc, Bool, true, false, List, [], ◌∷◌, ◌++◌, length, length-append, refl, sym, ap, ◌∙◌, subst, arith, ⊎_elim, ◌==◌, ◌&&◌, ◌||◌, and_parts, cases_lt, eqb-true, false≢true, filter, not, AllByRecursion, if◌then◌else◌}
use Rattle.gp_serial.specs.Graphs.{closes, is_cycle}
use Rattle.gp_serial.proofs.Anys.{and_both}
use Rattle.gp_serial.proofs.LeastLemmas.{Among}
use Rattle.gp_serial.proofs.PathLemmas.{filter_in}
use Rattle.gp_serial.proofs.WholeOrders.{is_in}

neither : (x y : Bool) → (x || y) ≡ false → (x ≡ false) × (y ≡ false)
neither true y e = absurd (false≢true (sym e))
neither false y e = (refl, e)

pub fewer : (p : ℕ → Bool) (list : List ℕ) → length (filter p list) ≤ length list
fewer p [] = omega arith
fewer p (t ∷ list) = by (p t) (fewer p list)
  where
    by : (c : Bool) → length (filter p list) ≤ length list → length (if c then t ∷ filter p list else filter p list) ≤ suc (length list)
    by true rest = omega (arith, rest)
    by false rest = omega (arith, rest)

shorter : (x : ℕ) (all : List ℕ) → is_in all x ≡ true → length (filter (λ other. not (other == x)) all) < length all
shorter x [] e = absurd (false≢true e)
shorter x (y ∷ all) e = by (y == x) e (shorter x all)
  where
    by : (c : Bool) → (c || is_in all x) ≡ true → (is_in all x ≡ true → length (filter (λ other. not (other == x)) all) < length all)
        → length (if not c then y ∷ filter (λ other. not (other == x)) all else filter (λ other. not (other == x)) all) < suc (length all)
    by true e rest = omega (arith, fewer (λ other. not (other == x)) all)
    by false e rest = omega (arith, rest e)

-- ---- one that occurs

record Split (t : ℕ) (list : List ℕ) : Type 0 where
  front : List ℕ
  rest : List ℕ
  is : list ≡ front ++ (t ∷ rest)

split : (t : ℕ) (list : List ℕ) → is_in list t ≡ true → Split t list
split t [] e = absurd (false≢true e)
split t (x ∷ list) e = by (x == t) refl e (split t list)
  where
    by : (c : Bool) → (x == t) ≡ c → (c || is_in list t) ≡ true → (is_in list t ≡ true → Split t list) → Split t (x ∷ list)
    by true same e later = record { front = []; rest = list; is = ap (λ u. u ∷ list) (eqb-true x t same) }
    by false other e later = let found = later e in record { front = x ∷ found.front; rest = found.rest; is = ap (λ own. x ∷ own) found.is }

record Twice (list : List ℕ) : Type 0 where
  t : ℕ
  front : List ℕ
  between : List ℕ
  rest : List ℕ
  is : list ≡ front ++ (t ∷ (between ++ (t ∷ rest)))

left_among : (x : ℕ) (all list : List ℕ) → is_in list x ≡ false → Among all list → Among (filter (λ other. not (other == x)) all) list
left_among x all [] none among = tt
left_among x all (t ∷ list) none (here, among) =
    let apart = neither (t == x) (is_in list x) none in
    (filter_in (λ other. not (other == x)) t (ap not apart.0) all here, left_among x all list apart.1 among)

twice : (list all : List ℕ) → Among all list → length all < length list → Twice list
twice [] all among more = absurd (omega (arith, more))
twice (x ∷ list) all (own, among) more = by (is_in list x) refl (twice list (filter (λ other. not (other == x)) all))
  where
    by : (c : Bool) → is_in list x ≡ c
        → (Among (filter (λ other. not (other == x)) all) list → length (filter (λ other. not (other == x)) all) < length list → Twice list) → Twice (x ∷ list)
    by true inside later = let found = split x list inside in record { t = x; front = []; between = found.front; rest = found.rest; is = ap (λ other. x ∷ other) found.is }
    by false none later =
        let found = later (left_among x all list none among) (omega (arith, shorter x all own, more)) in
        record { t = found.t; front = x ∷ found.front; between = found.between; rest = found.rest; is = ap (λ other. x ∷ other) found.is }

-- ---- a cycle from one to where it occurs again

closes_front : (f : ℕ → ℕ → Bool) (first t u : ℕ) (us rest : List ℕ) → closes f first (u ∷ (us ++ (t ∷ rest))) ≡ true → closes f t (u ∷ us) ≡ true
closes_front f first t u [] rest e = (and_parts (f u t) (closes f first (t ∷ rest)) e).0
closes_front f first t u (v ∷ us) rest e =
    let parts = and_parts (f u v) (closes f first (v ∷ (us ++ (t ∷ rest)))) e in
    and_both (f u v) (closes f t (v ∷ us)) parts.0 (closes_front f first t v us rest parts.1)

closes_behind : (f : ℕ → ℕ → Bool) (first t : ℕ) (front rest : List ℕ) → closes f first (front ++ (t ∷ rest)) ≡ true → closes f first (t ∷ rest) ≡ true
closes_behind f first t [] rest e = e
closes_behind f first t (x ∷ []) rest e = (and_parts (f x t) (closes f first (t ∷ rest)) e).1
closes_behind f first t (x ∷ y ∷ front) rest e = closes_behind f first t (y ∷ front) rest (and_parts (f x y) (closes f first (y ∷ (front ++ (t ∷ rest)))) e).1

each_parts : {A : Type 0} (P : A → Type 0) (xs ys : List A) → AllByRecursion P (xs ++ ys) → AllByRecursion P xs × AllByRecursion P ys
each_parts P [] ys all = (tt, all)
each_parts P (x ∷ xs) ys (own, all) = let parts = each_parts P xs ys all in ((own, parts.0), parts.1)

module _ (f : ℕ → ℕ → Bool) (all : List ℕ) (short : (other : List ℕ) → is_cycle f other ≡ true → Among all other → length other ≤ length all → ⊥) where
  cut : (n : ℕ) (other : List ℕ) → length other ≤ suc n → is_cycle f other ≡ true → Among all other → length all < length other
      → ((list : List ℕ) → length list ≤ n → is_cycle f list ≡ true → Among all list → ⊥) → ⊥
  cut n [] most e among more none = false≢true e
  cut n (first ∷ others) most e among more none =
      let found = twice (first ∷ others) all among more in
      let behind = closes_behind f first found.t found.front (found.between ++ (found.t ∷ found.rest)) (subst (λ list. closes f first list ≡ true) found.is e) in
      let parts = each_parts (λ t. is_in all t ≡ true) found.front (found.t ∷ (found.between ++ (found.t ∷ found.rest))) (subst (Among all) found.is among) in
      let inner = each_parts (λ t. is_in all t ≡ true) found.between (found.t ∷ found.rest) parts.1.1 in
      let long : length (first ∷ others) ≡ length found.front + suc (length found.between + suc (length found.rest)) =
      ap length found.is ∙ length-append found.front (found.t ∷ (found.between ++ (found.t ∷ found.rest)))
      ∙ ap (λ n. length found.front + suc n) (length-append found.between (found.t ∷ found.rest)) in
      none (found.t ∷ found.between) (omega (arith, long, most)) (closes_front f first found.t found.t found.between found.rest behind) (parts.1.0, inner.0)

  -- where no cycle has at most as many numbers as there are, there is none
  pub no_cycle : (n : ℕ) (other : List ℕ) → length other ≤ n → is_cycle f other ≡ true → Among all other → ⊥
  no_cycle zero other most e among = short other e among (omega (arith, most))
  no_cycle (suc n) other most e among =
      ⊎_elim (λ more. cut n other most e among more (no_cycle n)) (λ few. short other e among few) (cases_lt (length all) (length other))
