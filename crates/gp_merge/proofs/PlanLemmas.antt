-- What the code plans and builds is the merged program.
use Rattle.std.proofs.Common.{◌≡◌, ℕ, zero, suc, ◌+◌, ◌-◌, ◌*◌, ◌<◌, ◌≤◌, Bool, true, false, cond, List, [], ◌∷◌, ◌++◌, length, get_or, drop, drop-cons, reverse, refl, sym, ap, ◌∙◌, subst, arith, map}
use Rattle.std.specs.Prelude.{◌||◌, ◌==◌, nat_lt}
use Rattle.std.proofs.lemmas.Bool.{false≢true, eqb-true}
use Rattle.std.proofs.lemmas.List.{reverse-append}
use Rattle.std.proofs.lemmas.Bool.Decides.{nat_tests}
use Rattle.gp_algebra.specs.Plain.{Plain, scan, step, select, project, product, union, given, publish, PlainStep, PlainProgram}
use Rattle.gp_algebra.specs.Stops.{is_insert}
use Rattle.gp_algebra.specs.declared.plain.PQuery.{PQuery}
use Rattle.gp_algebra.specs.declared.program.Step as code
use Rattle.gp_algebra.specs.PlainViews.{step_view}
use Rattle.gp_merge.specs.Merging.{uses, program_uses, inlined, stays, settled, selected, projected, rebuilt, merged}
use Rattle.gp_merge.specs.MergingForms.{step_inlined, program_inlined, step_rebuilt, program_rebuilt}
use Rattle.gp_merge.specs.Planning.{Plan, no_steps_planned, steps_uses, plan_uses, planned_before, planned_onto, source_of, built, step_built, program_built}
use Rattle.gp_merge.proofs.Orders.{unequal_back, IsBelow, AreAbove, AreOrdered}
use Rattle.gp_merge.proofs.NormalLemmas.{unused_below}

-- ---- queries that are built once

-- the query with each of these in the place of its use, the first one first
abbrev pub filled : List PlainStep → Plain → Plain
filled [] query = query
filled (s ∷ others) query = filled others (inlined s.j s.query query)

built_none : (query : Plain) → built [] query ≡ rebuilt query
built_none (scan table version) = refl
built_none (step j) = refl
built_none (select query c) = ap (selected c) (built_none query)
built_none (project query exprs) = ap (projected exprs) (built_none query)
built_none (product l r) = λ i. product (built_none l i) (built_none r i)
built_none (union l r) = λ i. union (built_none l i) (built_none r i)
built_none (given rows) = refl
built_none (publish at b m l) = λ i. publish at (built_none b i) (built_none m i) (built_none l i)

built_more : (s : PlainStep) (others : List PlainStep) (query : Plain) → built (s ∷ others) query ≡ built others (inlined s.j s.query query)
built_more s others (scan table version) = refl
built_more s others (step i) = go (i == s.j)
  where
    go : (b : Bool) → cond b (built others s.query) (source_of others i) ≡ built others (cond b s.query (step i))
    go true = refl
    go false = refl
built_more s others (select query c) = ap (selected c) (built_more s others query)
built_more s others (project query exprs) = ap (projected exprs) (built_more s others query)
built_more s others (product l r) = λ i. product (built_more s others l i) (built_more s others r i)
built_more s others (union l r) = λ i. union (built_more s others l i) (built_more s others r i)
built_more s others (given rows) = refl
built_more s others (publish at b m l) = λ i. publish at (built_more s others b i) (built_more s others m i) (built_more s others l i)

built_is : (list : List PlainStep) (query : Plain) → built list query ≡ rebuilt (filled list query)
built_is [] query = built_none query
built_is (s ∷ others) query = built_more s others query ∙ built_is others (inlined s.j s.query query)

-- ---- uses

zero_left : (a b : ℕ) → a + b ≡ 0 → a ≡ 0
zero_left a b e = omega arith

zero_right : (a b : ℕ) → a + b ≡ 0 → b ≡ 0
zero_right a b e = omega arith

abbrev count_of : Bool → ℕ
count_of b = cond b 1 0

-- a step that is not used is put nowhere
unused_inlined : (j : ℕ) (body query : Plain) → uses j query ≡ 0 → inlined j body query ≡ query
unused_inlined j body (scan table version) none = refl
unused_inlined j body (step i) none = go (i == j) none
  where
    go : (b : Bool) → count_of b ≡ 0 → cond b body (step i) ≡ step i
    go true e = absurd (omega (arith, e))
    go false e = refl
unused_inlined j body (select query c) none = ap (λ q. select q c) (unused_inlined j body query none)
unused_inlined j body (project query exprs) none = ap (λ q. project q exprs) (unused_inlined j body query none)
unused_inlined j body (product l r) none = λ i. product (unused_inlined j body l (zero_left (uses j l) (uses j r) none) i) (unused_inlined j body r (zero_right (uses j l) (uses j r) none) i)
unused_inlined j body (union l r) none = λ i. union (unused_inlined j body l (zero_left (uses j l) (uses j r) none) i) (unused_inlined j body r (zero_right (uses j l) (uses j r) none) i)
unused_inlined j body (given rows) none = refl
unused_inlined j body (publish at b m l) none =
    let others : uses j m + uses j l ≡ 0 = zero_right (uses j b) (uses j m + uses j l) none in
    λ i. publish at (unused_inlined j body b (zero_left (uses j b) (uses j m + uses j l) none) i) (unused_inlined j body m (zero_left (uses j m) (uses j l) others) i)
    (unused_inlined j body l (zero_right (uses j m) (uses j l) others) i)

unused_steps : (j : ℕ) (body : Plain) (steps : List PlainStep) (last : Plain) → program_uses j steps last ≡ 0 → map (step_inlined j body) steps ≡ steps
unused_steps j body [] last none = refl
unused_steps j body (s ∷ steps) last none =
    λ i. record s { query = unused_inlined j body s.query (zero_left (uses j s.query) (program_uses j steps last) none) i }
    ∷ unused_steps j body steps last (zero_right (uses j s.query) (program_uses j steps last) none) i

unused_last : (j : ℕ) (body : Plain) (steps : List PlainStep) (last : Plain) → program_uses j steps last ≡ 0 → inlined j body last ≡ last
unused_last j body [] last none = unused_inlined j body last none
unused_last j body (s ∷ steps) last none = unused_last j body steps last (zero_right (uses j s.query) (program_uses j steps last) none)

-- uses of an earlier step: its own, and one for each use in each place
sum_of_both : (a b x y u a' b' : ℕ) → a' ≡ a + x * u → b' ≡ b + y * u → a' + b' ≡ (a + b) + (x + y) * u
sum_of_both a b x y u a' b' e f = omega (arith, e, f)

inlined_uses : (i j : ℕ) (body : Plain) → j < i → (query : Plain) → uses j (inlined i body query) ≡ uses j query + uses i query * uses j body
inlined_uses i j body l (scan table version) = omega arith
inlined_uses i j body l (step k) = go (k == i) refl
  where
    go : (b : Bool) → (k == i) ≡ b → uses j (cond b body (step k)) ≡ count_of (k == j) + count_of b * uses j body
    go true is = let other : (k == j) ≡ false = subst (λ n. (n == j) ≡ false) (sym (eqb-true k i is)) (unequal_back j i l) in
        let one : uses j body ≡ 0 + 1 * uses j body = omega arith in one ∙ ap (λ b. count_of b + 1 * uses j body) (sym other)
    go false is = omega arith
inlined_uses i j body l (select query c) = inlined_uses i j body l query
inlined_uses i j body l (project query exprs) = inlined_uses i j body l query
inlined_uses i j body l (product x y) = sum_of_both (uses j x) (uses j y) (uses i x) (uses i y) (uses j body) (uses j (inlined i body x)) (uses j (inlined i body y)) (inlined_uses i j body l x) (inlined_uses i j body l y)
inlined_uses i j body l (union x y) = sum_of_both (uses j x) (uses j y) (uses i x) (uses i y) (uses j body) (uses j (inlined i body x)) (uses j (inlined i body y)) (inlined_uses i j body l x) (inlined_uses i j body l y)
inlined_uses i j body l (given rows) = omega arith
inlined_uses i j body l (publish at x y z) =
    sum_of_both (uses j x) (uses j y + uses j z) (uses i x) (uses i y + uses i z) (uses j body) (uses j (inlined i body x)) (uses j (inlined i body y) + uses j (inlined i body z)) (inlined_uses i j body l x)
    (sum_of_both (uses j y) (uses j z) (uses i y) (uses i z) (uses j body) (uses j (inlined i body y)) (uses j (inlined i body z)) (inlined_uses i j body l y) (inlined_uses i j body l z))

inlined_program_uses : (i j : ℕ) (body : Plain) → j < i → (steps : List PlainStep) (last : Plain)
    → program_uses j (map (step_inlined i body) steps) (inlined i body last) ≡ program_uses j steps last + program_uses i steps last * uses j body
inlined_program_uses i j body l [] last = inlined_uses i j body l last
inlined_program_uses i j body l (s ∷ steps) last =
    sum_of_both (uses j s.query) (program_uses j steps last) (uses i s.query) (program_uses i steps last) (uses j body) (uses j (inlined i body s.query)) (program_uses j (map (step_inlined i body) steps) (inlined i body last))
    (inlined_uses i j body l s.query) (inlined_program_uses i j body l steps last)

steps_uses-more : (j : ℕ) (list : List PlainStep) (s : PlainStep) → steps_uses j (list ++ s ∷ []) ≡ steps_uses j list + uses j s.query
steps_uses-more j [] s = omega arith
steps_uses-more j (first ∷ list) s = let rest = steps_uses-more j list s in omega (arith, rest)

-- ---- what is put in the place of uses

filled-more : (list : List PlainStep) (s : PlainStep) (query : Plain) → filled (list ++ s ∷ []) query ≡ inlined s.j s.query (filled list query)
filled-more [] s query = refl
filled-more (first ∷ list) s query = filled-more list s (inlined first.j first.query query)

-- later steps are not read
filled_below : (n : ℕ) (list : List PlainStep) (query : Plain) → AreAbove n list → IsBelow n query → filled list query ≡ query
filled_below n [] query above below = refl
filled_below n (s ∷ list) query above below =
    ap (filled list) (unused_inlined s.j s.query query (unused_below n s.j query (let l : n < s.j = above.0 in omega arith) below)) ∙ filled_below n list query above.1 below

above-more : (n : ℕ) (list : List PlainStep) (s : PlainStep) → AreAbove n list → n < s.j → AreAbove n (list ++ s ∷ [])
above-more n [] s above l = (l, tt)
above-more n (first ∷ list) s above l = (above.0, above-more n list s above.1 l)

reverse-more : (list : List PlainStep) (s : PlainStep) → reverse (list ++ s ∷ []) ≡ s ∷ reverse list
reverse-more list s = reverse-append list (s ∷ [])

-- ---- plans

abbrev step_filled : List PlainStep → PlainStep → PlainStep
step_filled list s = record s { query = filled list s.query }

abbrev program_of : Plan → Plain → PlainProgram
program_of plan last = record { steps = map (step_filled plan.inline) (reverse plan.stay); last = filled plan.inline last }

-- a plan of these steps
record Settles (last : Plain) (steps : List PlainStep) (plan : Plan) : Type 0 where
  pub same : settled steps last ≡ program_of plan last
  pub used : (j : ℕ) → AreAbove j steps → program_uses j (settled steps last).steps (settled steps last).last ≡ plan_uses j last plan
  pub above : (j : ℕ) → AreAbove j steps → AreAbove j plan.inline

filled_twice : (s : PlainStep) (list : List PlainStep) (stay : List PlainStep) → map (step_inlined s.j s.query) (map (step_filled list) stay) ≡ map (step_filled (list ++ s ∷ [])) stay
filled_twice s list [] = refl
filled_twice s list (t ∷ stay) = λ i. record t { query = sym (filled-more list s t.query) i } ∷ filled_twice s list stay i

module _ (last : Plain) (s : PlainStep) (others : List PlainStep) (below : IsBelow s.j s.query) (behind : AreAbove s.j others) (plan : Plan) (rest : Settles last others plan) where
  abbrev S : PlainProgram
  S = settled others last

  stay_settles : stays s S ≡ true → Settles last (s ∷ others) (record plan { stay = plan.stay ++ s ∷ [] })
  stay_settles st = record {
    same = is ∙ first ∙ again;
    used = λ j a. ap (λ (p : PlainProgram). program_uses j p.steps p.last) is ∙ count j a;
    above = λ j a. rest.above j a.1;
  }
    where
      is : settled (s ∷ others) last ≡ record { steps = s ∷ S.steps; last = S.last }
      is = ap (λ b. cond b (record S { steps = s ∷ S.steps }) (program_inlined s.j s.query S)) st

      first : let P : PlainProgram = record { steps = s ∷ S.steps; last = S.last } in P ≡ record { steps = s ∷ (program_of plan last).steps; last = (program_of plan last).last }
      first = ap (λ (p : PlainProgram). let q : PlainProgram = record { steps = s ∷ p.steps; last = p.last } in q) rest.same

      body : step_filled plan.inline s ≡ s
      body = ap (λ q. record s { query = q }) (filled_below s.j plan.inline s.query (rest.above s.j behind) below)

      again : let P : PlainProgram = record { steps = s ∷ (program_of plan last).steps; last = (program_of plan last).last } in P ≡ program_of (record plan { stay = plan.stay ++ s ∷ [] }) last
      again = ap (λ list. let q : PlainProgram = record { steps = list; last = filled plan.inline last } in q)
          (ap (λ t. t ∷ map (step_filled plan.inline) (reverse plan.stay)) (sym body) ∙ ap (map (step_filled plan.inline)) (sym (reverse-more plan.stay s)))

      count : (j : ℕ) → AreAbove j (s ∷ others) → uses j s.query + program_uses j S.steps S.last ≡ plan_uses j last (record plan { stay = plan.stay ++ s ∷ [] })
      count j a =
          let e = rest.used j a.1 in
          let m = steps_uses-more j plan.stay s in
          omega (arith, e, m)

  inline_settles : stays s S ≡ false → program_uses s.j S.steps S.last ≡ 1 → Settles last (s ∷ others) (record plan { inline = plan.inline ++ s ∷ [] })
  inline_settles st one = record {
    same = is ∙ first ∙ again;
    used = λ j a. ap (λ (p : PlainProgram). program_uses j p.steps p.last) is ∙ count j a;
    above = λ j a. above-more j plan.inline s (rest.above j a.1) a.0;
  }
    where
      is : settled (s ∷ others) last ≡ program_inlined s.j s.query S
      is = ap (λ b. cond b (record S { steps = s ∷ S.steps }) (program_inlined s.j s.query S)) st

      first : program_inlined s.j s.query S ≡ program_inlined s.j s.query (program_of plan last)
      first = ap (program_inlined s.j s.query) rest.same

      again : program_inlined s.j s.query (program_of plan last) ≡ program_of (record plan { inline = plan.inline ++ s ∷ [] }) last
      again = λ i. record { steps = filled_twice s plan.inline (reverse plan.stay) i; last = sym (filled-more plan.inline s last) i }

      count : (j : ℕ) → AreAbove j (s ∷ others) → program_uses j (program_inlined s.j s.query S).steps (program_inlined s.j s.query S).last ≡ plan_uses j last (record plan { inline = plan.inline ++ s ∷ [] })
      count j a =
          let e = rest.used j a.1 in
          let m = steps_uses-more j plan.inline s in
          let u : program_uses j (program_inlined s.j s.query S).steps (program_inlined s.j s.query S).last ≡ program_uses j S.steps S.last + 1 * uses j s.query =
          inlined_program_uses s.j j s.query a.0 S.steps S.last ∙ ap (λ n. program_uses j S.steps S.last + n * uses j s.query) one in
          omega (arith, e, m, u)

  drop_settles : stays s S ≡ false → program_uses s.j S.steps S.last ≡ 0 → Settles last (s ∷ others) plan
  drop_settles st none = record {
    same = is ∙ rest.same;
    used = λ j a. ap (λ (p : PlainProgram). program_uses j p.steps p.last) is ∙ rest.used j a.1;
    above = λ j a. rest.above j a.1;
  }
    where
      is : settled (s ∷ others) last ≡ S
      is = ap (λ b. cond b (record S { steps = s ∷ S.steps }) (program_inlined s.j s.query S)) st
          ∙ λ i. record { steps = unused_steps s.j s.query S.steps S.last none i; last = unused_last s.j s.query S.steps S.last none i }

  before_settles : Settles last (s ∷ others) (planned_before last s plan)
  before_settles = go (is_insert s.query || nat_lt 1 count) refl (nat_lt 0 count) refl
    where
      count : ℕ
      count = plan_uses s.j last plan

      counted : program_uses s.j S.steps S.last ≡ count
      counted = rest.used s.j behind

      tested : stays s S ≡ (is_insert s.query || nat_lt 1 count)
      tested = ap (λ n. is_insert s.query || nat_lt 1 n) counted

      right : (a b : Bool) → (a || b) ≡ false → b ≡ false
      right true b e = absurd (false≢true (sym e))
      right false b e = e

      exactly_one : (n : ℕ) → nat_lt 1 n ≡ false → nat_lt 0 n ≡ true → n ≡ 1
      exactly_one n few some = grind (arith, nat_tests)

      exactly_none : (n : ℕ) → nat_lt 0 n ≡ false → n ≡ 0
      exactly_none n none = grind (arith, nat_tests)

      go : (b : Bool) → (is_insert s.query || nat_lt 1 count) ≡ b → (c : Bool) → nat_lt 0 count ≡ c
          → Settles last (s ∷ others) (cond b (record plan { stay = plan.stay ++ s ∷ [] }) (cond c (record plan { inline = plan.inline ++ s ∷ [] }) plan))
      go true st c some = stay_settles (tested ∙ st)
      go false st true some = inline_settles (tested ∙ st) (counted ∙ exactly_one count (right (is_insert s.query) (nat_lt 1 count) st) some)
      go false st false some = drop_settles (tested ∙ st) (counted ∙ exactly_none count some)

planned_settles : (last : Plain) (steps : List PlainStep) → AreOrdered steps → Settles last steps (planned_onto last steps no_steps_planned)
planned_settles last [] o = record { same = refl; used = λ j a. omega arith; above = λ j a. tt }
planned_settles last (s ∷ others) o = before_settles last s others o.0 o.1 (planned_onto last others no_steps_planned) (planned_settles last others o.2)

-- ---- the code merges

rebuilt_steps : (list stay : List PlainStep) → map step_rebuilt (map (step_filled list) stay) ≡ map (step_built list) stay
rebuilt_steps list [] = refl
rebuilt_steps list (s ∷ stay) = λ i. record s { query = sym (built_is list s.query) i } ∷ rebuilt_steps list stay i

pub merged_is_built : (program : PlainProgram) → AreOrdered program.steps → program_built (planned_onto program.last program.steps no_steps_planned) program.last ≡ merged program
merged_is_built program o =
    let plan = planned_onto program.last program.steps no_steps_planned in
    let last : built plan.inline program.last ≡ rebuilt (filled plan.inline program.last) = built_is plan.inline program.last in
    (λ i. record { steps = sym (rebuilt_steps plan.inline (reverse plan.stay)) i; last = last i }) ∙ ap program_rebuilt (sym (planned_settles program.last program.steps o).same)

-- ---- for the loops of the code

-- one more step before those from a place on
pub planned_here : (last : Plain) (steps : List (code.Step PQuery)) (place : ℕ) (s : code.Step PQuery) (plan : Plan) → 0 < place → place ≤ length steps → s ≡ get_or steps (place - 1) s
    → plan ≡ planned_before last (step_view s) (planned_onto last (map step_view (drop place steps)) no_steps_planned)
    → plan ≡ planned_onto last (map step_view (drop (place - 1) steps)) no_steps_planned
planned_here last steps zero s plan some within is same = absurd (omega (arith, some))
planned_here last steps (suc place) s plan some within is same =
    let back : suc place - 1 ≡ place = omega arith in
    let here : drop place steps ≡ s ∷ drop (suc place) steps =
    drop-cons steps place s (omega (arith, within)) ∙ ap (λ t. t ∷ drop (suc place) steps) (sym (is ∙ ap (λ i. get_or steps i s) back)) in
    same ∙ sym (ap (λ list. planned_onto last (map step_view list) no_steps_planned) (ap (λ i. drop i steps) back ∙ here))
