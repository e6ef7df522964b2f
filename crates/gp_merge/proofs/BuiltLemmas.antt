-- A merged program is well built.
use Rattle.std.proofs.Common.{◌≡◌, ℕ, Bool, true, false, cond, List, [], ◌∷◌, refl, sym, ap, ◌∙◌, subst, map}
use Rattle.std.specs.Prelude.{◌||◌, ◌&&◌, ◌==◌, not, nat_lt, nat_le}
use Rattle.std.specs.List.{list_all, list_any, sum_by}
use Rattle.std.proofs.lemmas.Bool.{and_parts, false≢true, or_right}
use Rattle.gp_expr.specs.Expressions as e
use Rattle.gp_expr.specs.Expressions.{Expr, Cond}
use Rattle.gp_expr.specs.ExpressionForms.{cond_is_simple}
use Rattle.gp_expr.specs.Sizes.{size}
use Rattle.gp_expr.specs.Substitution.{substituted_each}
use Rattle.gp_algebra.specs.Plain.{Plain, scan, step, select, project, product, union, given, publish, PlainStep, PlainProgram}
use Rattle.gp_algebra.specs.Stops.{is_insert}
use Rattle.gp_algebra.specs.WellBuilt.{makes_no_identity, may_be_identity, is_among, is_above, query_is_built, rows_are_built, step_is_built, steps_are_built, numbers_after, is_well_built}
use Rattle.gp_merge.specs.Merging.{inlined, stays, settled, tests_times, is_small, selected, projected, rebuilt, merged}
use Rattle.gp_merge.specs.MergingForms.{step_inlined, program_inlined, step_rebuilt}
use Rattle.gp_merge.specs.declared.limit.TheConstants.{MAX_PROJECTION_NODES}
use Rattle.gp_merge.proofs.ExpressionLemmas.{both, none_may_be, each_none_stays, each_may_stay}
use Rattle.gp_merge.proofs.NormalLemmas.{either_false}
use Rattle.gp_base.proofs.SmallLemmas.{eq_turned}

-- ---- queries

all_may_be : (exprs : List Expr) → list_all makes_no_identity exprs ≡ true → list_all may_be_identity exprs ≡ true
all_may_be [] none = refl
all_may_be (x ∷ exprs) none = let p = and_parts (makes_no_identity x) _ none in both (none_may_be x p.0) (all_may_be exprs p.1)

query_rows : (numbers : List ℕ) (query : Plain) → query_is_built numbers query ≡ true → rows_are_built numbers query ≡ true
query_rows numbers (union l r) built = let p = and_parts (query_is_built numbers l) _ built in both (query_rows numbers l p.0) (query_rows numbers r p.1)
query_rows numbers (project query exprs) built = let p = and_parts (query_is_built numbers query) _ built in both p.0 (all_may_be exprs p.1)
query_rows numbers (scan table version) built = built
query_rows numbers (step j) built = built
query_rows numbers (select query c) built = built
query_rows numbers (product l r) built = built
query_rows numbers (given rows) built = built
query_rows numbers (publish at b m l) built = built

query_step : (numbers : List ℕ) (query : Plain) → query_is_built numbers query ≡ true → step_is_built numbers query ≡ true
query_step numbers (union l r) built = let p = and_parts (query_is_built numbers l) _ built in both (query_rows numbers l p.0) (query_rows numbers r p.1)
query_step numbers (project query exprs) built = built
query_step numbers (scan table version) built = built
query_step numbers (step j) built = built
query_step numbers (select query c) built = built
query_step numbers (product l r) built = built
query_step numbers (given rows) built = built
query_step numbers (publish at b m l) built = built

-- the query of a step that is no INSERT makes no identities
step_query : (numbers : List ℕ) (query : Plain) → is_insert query ≡ false → step_is_built numbers query ≡ true → query_is_built numbers query ≡ true
step_query numbers (union l r) none built = absurd (false≢true (sym none))
step_query numbers (project query exprs) none built = built
step_query numbers (scan table version) none built = built
step_query numbers (step j) none built = built
step_query numbers (select query c) none built = built
step_query numbers (product l r) none built = built
step_query numbers (given rows) none built = built
step_query numbers (publish at b m l) none built = built

-- more steps can be read
query_wider : (numbers more : List ℕ) → ((i : ℕ) → is_among numbers i ≡ true → is_among more i ≡ true) → (query : Plain) → query_is_built numbers query ≡ true → query_is_built more query ≡ true
query_wider numbers more wider (scan table version) built = refl
query_wider numbers more wider (step j) built = wider j built
query_wider numbers more wider (select query c) built = let p = and_parts (query_is_built numbers query) _ built in both (query_wider numbers more wider query p.0) p.1
query_wider numbers more wider (project query exprs) built = let p = and_parts (query_is_built numbers query) _ built in both (query_wider numbers more wider query p.0) p.1
query_wider numbers more wider (product l r) built = let p = and_parts (query_is_built numbers l) _ built in both (query_wider numbers more wider l p.0) (query_wider numbers more wider r p.1)
query_wider numbers more wider (union l r) built = let p = and_parts (query_is_built numbers l) _ built in both (query_wider numbers more wider l p.0) (query_wider numbers more wider r p.1)
query_wider numbers more wider (given rows) built = refl
query_wider numbers more wider (publish at b m l) built =
    let p = and_parts (query_is_built numbers b) _ built in let q = and_parts (query_is_built numbers m) _ p.1 in
    both (query_wider numbers more wider b p.0) (both (query_wider numbers more wider m q.0) (query_wider numbers more wider l q.1))

-- ---- a step in the place of its use

module _ (j : ℕ) (body : Plain) where
  -- the second numbers are the first but this one
  pub record AreBut (numbers others : List ℕ) : Type 0 where
    pub among : (i : ℕ) → is_among numbers i ≡ true → (i == j) ≡ false → is_among others i ≡ true
    pub above : (n : ℕ) → is_above numbers n ≡ true → is_above others n ≡ true
    pub own_is : query_is_built others body ≡ true

  but_more : (numbers others : List ℕ) (n : ℕ) → AreBut numbers others → AreBut (n ∷ numbers) (n ∷ others)
  but_more numbers others n but = record {
    among = λ i is other. more i (n == i) is other;
    above = λ k so. let p = and_parts (nat_lt n k) (is_above numbers k) so in both p.0 (but.above k p.1);
    own_is = query_wider others (n ∷ others) (λ i is. or_right (n == i) (is_among others i) is) body but.own_is;
  }
    where
      more : (i : ℕ) (b : Bool) → (b || is_among numbers i) ≡ true → (i == j) ≡ false → (b || is_among others i) ≡ true
      more i true is other = refl
      more i false is other = but.among i is other

  query_inlined : (numbers others : List ℕ) → AreBut numbers others → (query : Plain) → query_is_built numbers query ≡ true → query_is_built others (inlined j body query) ≡ true
  query_inlined numbers others but (scan table version) built = refl
  query_inlined numbers others but (step i) built = go (i == j) refl
    where
      go : (b : Bool) → (i == j) ≡ b → query_is_built others (cond b body (step i)) ≡ true
      go true is = but.own_is
      go false is = but.among i built is
  query_inlined numbers others but (select query c) built = let p = and_parts (query_is_built numbers query) _ built in both (query_inlined numbers others but query p.0) p.1
  query_inlined numbers others but (project query exprs) built = let p = and_parts (query_is_built numbers query) _ built in both (query_inlined numbers others but query p.0) p.1
  query_inlined numbers others but (product l r) built = let p = and_parts (query_is_built numbers l) _ built in both (query_inlined numbers others but l p.0) (query_inlined numbers others but r p.1)
  query_inlined numbers others but (union l r) built = let p = and_parts (query_is_built numbers l) _ built in both (query_inlined numbers others but l p.0) (query_inlined numbers others but r p.1)
  query_inlined numbers others but (given rows) built = refl
  query_inlined numbers others but (publish at b m l) built =
      let p = and_parts (query_is_built numbers b) _ built in let q = and_parts (query_is_built numbers m) _ p.1 in
      both (query_inlined numbers others but b p.0) (both (query_inlined numbers others but m q.0) (query_inlined numbers others but l q.1))

  rows_inlined : (numbers others : List ℕ) → AreBut numbers others → (query : Plain) → rows_are_built numbers query ≡ true → rows_are_built others (inlined j body query) ≡ true
  rows_inlined numbers others but (union l r) built = let p = and_parts (rows_are_built numbers l) _ built in both (rows_inlined numbers others but l p.0) (rows_inlined numbers others but r p.1)
  rows_inlined numbers others but (project query exprs) built = let p = and_parts (query_is_built numbers query) _ built in both (query_inlined numbers others but query p.0) p.1
  rows_inlined numbers others but (scan table version) built = refl
  rows_inlined numbers others but (step i) built = query_rows others (inlined j body (step i)) (query_inlined numbers others but (step i) built)
  rows_inlined numbers others but (select query c) built = query_inlined numbers others but (select query c) built
  rows_inlined numbers others but (product l r) built = query_inlined numbers others but (product l r) built
  rows_inlined numbers others but (given rows) built = refl
  rows_inlined numbers others but (publish at b m l) built = query_inlined numbers others but (publish at b m l) built

  contents_inlined : (numbers others : List ℕ) → AreBut numbers others → (query : Plain) → step_is_built numbers query ≡ true → step_is_built others (inlined j body query) ≡ true
  contents_inlined numbers others but (union l r) built = let p = and_parts (rows_are_built numbers l) _ built in both (rows_inlined numbers others but l p.0) (rows_inlined numbers others but r p.1)
  contents_inlined numbers others but (project query exprs) built = query_inlined numbers others but (project query exprs) built
  contents_inlined numbers others but (scan table version) built = refl
  contents_inlined numbers others but (step i) built = query_step others (inlined j body (step i)) (query_inlined numbers others but (step i) built)
  contents_inlined numbers others but (select query c) built = query_inlined numbers others but (select query c) built
  contents_inlined numbers others but (product l r) built = query_inlined numbers others but (product l r) built
  contents_inlined numbers others but (given rows) built = refl
  contents_inlined numbers others but (publish at b m l) built = query_inlined numbers others but (publish at b m l) built

  steps_inlined : (numbers others : List ℕ) → AreBut numbers others → (steps : List PlainStep) → steps_are_built numbers steps ≡ true → steps_are_built others (map (step_inlined j body) steps) ≡ true
  steps_inlined numbers others but [] built = refl
  steps_inlined numbers others but (s ∷ steps) built =
      let p = and_parts (is_above numbers s.j) _ built in let q = and_parts (step_is_built numbers s.query) _ p.1 in
      both (but.above s.j p.0) (both (contents_inlined numbers others but s.query q.0) (steps_inlined (s.j ∷ numbers) (s.j ∷ others) (but_more numbers others s.j but) steps q.1))

  last_inlined : (numbers others : List ℕ) → AreBut numbers others → (steps : List PlainStep) (last : Plain) → query_is_built (numbers_after numbers steps) last ≡ true
      → query_is_built (numbers_after others (map (step_inlined j body) steps)) (inlined j body last) ≡ true
  last_inlined numbers others but [] last built = query_inlined numbers others but last built
  last_inlined numbers others but (s ∷ steps) last built = last_inlined (s.j ∷ numbers) (s.j ∷ others) (but_more numbers others s.j but) steps last built

-- ---- settled programs

abbrev pub AreBuilt : List ℕ → PlainProgram → Type 0
AreBuilt numbers program = (steps_are_built numbers program.steps ≡ true) × (query_is_built (numbers_after numbers program.steps) program.last ≡ true)

settled_built : (numbers : List ℕ) (steps : List PlainStep) (last : Plain) → steps_are_built numbers steps ≡ true → query_is_built (numbers_after numbers steps) last ≡ true → AreBuilt numbers (settled steps last)
settled_built numbers [] last built last_built = (refl, last_built)
settled_built numbers (s ∷ steps) last built last_built =
    let p = and_parts (is_above numbers s.j) (step_is_built numbers s.query && steps_are_built (s.j ∷ numbers) steps) built in
    let q = and_parts (step_is_built numbers s.query) (steps_are_built (s.j ∷ numbers) steps) p.1 in
    go p.0 q.0 (settled_built (s.j ∷ numbers) steps last q.1 last_built) (stays s (settled steps last)) refl
  where
    but : step_is_built numbers s.query ≡ true → is_insert s.query ≡ false → AreBut s.j s.query (s.j ∷ numbers) numbers
    but body none = record {
      among = λ i is other. let there : (s.j == i) ≡ false = eq_turned i s.j other in subst (λ b. (b || is_among numbers i) ≡ true) there is;
      above = λ n so. (and_parts (nat_lt s.j n) (is_above numbers n) so).1;
      own_is = step_query numbers s.query none body;
    }

    go : is_above numbers s.j ≡ true → step_is_built numbers s.query ≡ true → AreBuilt (s.j ∷ numbers) (settled steps last) → (b : Bool) → stays s (settled steps last) ≡ b
        → AreBuilt numbers (cond b (record (settled steps last) { steps = s ∷ (settled steps last).steps }) (program_inlined s.j s.query (settled steps last)))
    go above body rest true is = (both above (both body rest.0), rest.1)
    go above body rest false is =
        let none : is_insert s.query ≡ false = either_false _ _ is in (
          steps_inlined s.j s.query (s.j ∷ numbers) numbers (but body none) (settled steps last).steps rest.0,
          last_inlined s.j s.query (s.j ∷ numbers) numbers (but body none) (settled steps last).steps (settled steps last).last rest.1,
        )

-- ---- rebuilt queries

-- what is small tests no product of provenance
no_tests : (exprs : List Expr) → is_small exprs ≡ true → list_any tests_times exprs ≡ false
unfolding is_small
no_tests exprs small = go (list_any tests_times exprs) (and_parts (nat_le (sum_by size exprs) MAX_PROJECTION_NODES) (not (list_any tests_times exprs)) small).1
  where
    go : (b : Bool) → not b ≡ true → b ≡ false
    go true e = sym e
    go false e = refl

module _ (numbers : List ℕ) where
  selected_built : (c : Cond) (query : Plain) → cond_is_simple c ≡ true → query_is_built numbers query ≡ true → query_is_built numbers (selected c query) ≡ true
  selected_built c (select query first) simple built = let p = and_parts (query_is_built numbers query) _ built in both p.0 (both p.1 simple)
  selected_built c (scan table version) simple built = simple
  selected_built c (step j) simple built = both built simple
  selected_built c (project query exprs) simple built = both built simple
  selected_built c (product l r) simple built = both built simple
  selected_built c (union l r) simple built = both built simple
  selected_built c (given rows) simple built = simple
  selected_built c (publish at b m l) simple built = both built simple

  projected_built : (exprs : List Expr) (query : Plain) → list_all makes_no_identity exprs ≡ true → query_is_built numbers query ≡ true → query_is_built numbers (projected exprs query) ≡ true
  projected_built exprs (project query inner) none built =
      let p = and_parts (query_is_built numbers query) (list_all makes_no_identity inner) built in
      go (is_small (substituted_each exprs inner)) refl p.1 (λ stay. projected_built (substituted_each exprs inner) query stay p.0)
    where
      go : (b : Bool) → is_small (substituted_each exprs inner) ≡ b → list_all makes_no_identity inner ≡ true
          → (list_all makes_no_identity (substituted_each exprs inner) ≡ true → query_is_built numbers (projected (substituted_each exprs inner) query) ≡ true)
          → query_is_built numbers (cond b (projected (substituted_each exprs inner) query) (project (project query inner) exprs)) ≡ true
      go true small all rest = rest (each_none_stays inner all exprs none (no_tests (substituted_each exprs inner) small))
      go false small all rest = both built none
  projected_built exprs (scan table version) none built = none
  projected_built exprs (step j) none built = both built none
  projected_built exprs (select query c) none built = both built none
  projected_built exprs (product l r) none built = both built none
  projected_built exprs (union l r) none built = both built none
  projected_built exprs (given rows) none built = none
  projected_built exprs (publish at b m l) none built = both built none

  projected_rows : (exprs : List Expr) (query : Plain) → list_all may_be_identity exprs ≡ true → query_is_built numbers query ≡ true → rows_are_built numbers (projected exprs query) ≡ true
  projected_rows exprs (project query inner) may built =
      let p = and_parts (query_is_built numbers query) (list_all makes_no_identity inner) built in
      go (is_small (substituted_each exprs inner)) refl p.1 (λ stay. projected_rows (substituted_each exprs inner) query stay p.0)
    where
      go : (b : Bool) → is_small (substituted_each exprs inner) ≡ b → list_all makes_no_identity inner ≡ true
          → (list_all may_be_identity (substituted_each exprs inner) ≡ true → rows_are_built numbers (projected (substituted_each exprs inner) query) ≡ true)
          → rows_are_built numbers (cond b (projected (substituted_each exprs inner) query) (project (project query inner) exprs)) ≡ true
      go true small all rest = rest (each_may_stay inner all exprs may (no_tests (substituted_each exprs inner) small))
      go false small all rest = both built may
  projected_rows exprs (scan table version) may built = may
  projected_rows exprs (step j) may built = both built may
  projected_rows exprs (select query c) may built = both built may
  projected_rows exprs (product l r) may built = both built may
  projected_rows exprs (union l r) may built = both built may
  projected_rows exprs (given rows) may built = may
  projected_rows exprs (publish at b m l) may built = both built may

  query_rebuilt : (query : Plain) → query_is_built numbers query ≡ true → query_is_built numbers (rebuilt query) ≡ true
  query_rebuilt (scan table version) built = refl
  query_rebuilt (step j) built = built
  query_rebuilt (select query c) built = let p = and_parts (query_is_built numbers query) _ built in selected_built c (rebuilt query) p.1 (query_rebuilt query p.0)
  query_rebuilt (project query exprs) built = let p = and_parts (query_is_built numbers query) _ built in projected_built exprs (rebuilt query) p.1 (query_rebuilt query p.0)
  query_rebuilt (product l r) built = let p = and_parts (query_is_built numbers l) _ built in both (query_rebuilt l p.0) (query_rebuilt r p.1)
  query_rebuilt (union l r) built = let p = and_parts (query_is_built numbers l) _ built in both (query_rebuilt l p.0) (query_rebuilt r p.1)
  query_rebuilt (given rows) built = refl
  query_rebuilt (publish at b m l) built =
      let p = and_parts (query_is_built numbers b) _ built in let q = and_parts (query_is_built numbers m) _ p.1 in
      both (query_rebuilt b p.0) (both (query_rebuilt m q.0) (query_rebuilt l q.1))

  rows_rebuilt : (query : Plain) → rows_are_built numbers query ≡ true → rows_are_built numbers (rebuilt query) ≡ true
  rows_rebuilt (union l r) built = let p = and_parts (rows_are_built numbers l) _ built in both (rows_rebuilt l p.0) (rows_rebuilt r p.1)
  rows_rebuilt (project query exprs) built = let p = and_parts (query_is_built numbers query) _ built in projected_rows exprs (rebuilt query) p.1 (query_rebuilt query p.0)
  rows_rebuilt (scan table version) built = refl
  rows_rebuilt (step j) built = built
  rows_rebuilt (select query c) built = query_rows numbers (rebuilt (select query c)) (query_rebuilt (select query c) built)
  rows_rebuilt (product l r) built = query_rebuilt (product l r) built
  rows_rebuilt (given rows) built = refl
  rows_rebuilt (publish at b m l) built = query_rebuilt (publish at b m l) built

  contents_rebuilt : (query : Plain) → step_is_built numbers query ≡ true → step_is_built numbers (rebuilt query) ≡ true
  contents_rebuilt (union l r) built = let p = and_parts (rows_are_built numbers l) _ built in both (rows_rebuilt l p.0) (rows_rebuilt r p.1)
  contents_rebuilt (project query exprs) built = query_step numbers (rebuilt (project query exprs)) (query_rebuilt (project query exprs) built)
  contents_rebuilt (scan table version) built = refl
  contents_rebuilt (step j) built = built
  contents_rebuilt (select query c) built = query_step numbers (rebuilt (select query c)) (query_rebuilt (select query c) built)
  contents_rebuilt (product l r) built = query_rebuilt (product l r) built
  contents_rebuilt (given rows) built = refl
  contents_rebuilt (publish at b m l) built = query_rebuilt (publish at b m l) built

steps_rebuilt : (numbers : List ℕ) (steps : List PlainStep) → steps_are_built numbers steps ≡ true → steps_are_built numbers (map step_rebuilt steps) ≡ true
steps_rebuilt numbers [] built = refl
steps_rebuilt numbers (s ∷ steps) built =
    let p = and_parts (is_above numbers s.j) _ built in let q = and_parts (step_is_built numbers s.query) _ p.1 in
    both p.0 (both (contents_rebuilt numbers s.query q.0) (steps_rebuilt (s.j ∷ numbers) steps q.1))

numbers_rebuilt : (numbers : List ℕ) (steps : List PlainStep) → numbers_after numbers (map step_rebuilt steps) ≡ numbers_after numbers steps
numbers_rebuilt numbers [] = refl
numbers_rebuilt numbers (s ∷ steps) = numbers_rebuilt (s.j ∷ numbers) steps

pub merged_built : (program : PlainProgram) → is_well_built program ≡ true → is_well_built (merged program) ≡ true
merged_built program built =
    let p = and_parts (steps_are_built [] program.steps) (query_is_built (numbers_after [] program.steps) program.last) built in
    let stay = settled_built [] program.steps program.last p.0 p.1 in
    let settlement = settled program.steps program.last in
    both (steps_rebuilt [] settlement.steps stay.0)
    (ap (λ numbers. query_is_built numbers (rebuilt settlement.last)) (numbers_rebuilt [] settlement.steps) ∙ query_rebuilt (numbers_after [] settlement.steps) settlement.last stay.1)
