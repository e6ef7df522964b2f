-- Merged programs have types, if each step of the program has the types of its table. These are given for each step at once, so a step in the place of its use
-- changes no type.
use Rattle.gp_typed.proofs.Prelude.{◌≡◌, ℕ, Bool, true, false, cond, List, [], ◌∷◌, map, Some, None, refl, sym, ap, ◌∙◌, Option, is_some, ◌&&◌, ◌==◌, AllByRecursion, and_parts, eqb-true, ltb-true, nat_lt, option_map_or, Table, Expr, Cond, substituted_each, CellType, cond_is_typed, exprs_types, both_types, selected_types, projected_types, product_types, published_types, StepTypes, query_types, is_typed, substituted-types}
use Rattle.std.specs.Prelude.{◌||◌}
use Rattle.gp_base.proofs.SmallLemmas.{eq_turned, not_eq}
use Rattle.gp_expr.specs.Expressions as e
use Rattle.gp_algebra.specs.Plain.{Plain, scan, step, select, project, product, union, given, publish, PlainStep, PlainProgram}
use Rattle.gp_algebra.specs.WellBuilt.{is_among, is_above, query_is_built, rows_are_built, step_is_built, steps_are_built, numbers_after, is_well_built}
use Rattle.gp_merge.specs.Merging.{inlined, stays, settled, is_small, selected, projected, rebuilt, merged}
use Rattle.gp_merge.specs.MergingForms.{program_inlined}
use Rattle.gp_sql.specs.Types.{are_whole, no_types, with_types, step_is_typed, steps_types, steps_are_typed}

abbrev Known : Option (List CellType) → Type 0
Known types = is_some types ≡ true

-- none of them is the type of NULL
abbrev pub IsWhole : Option (List CellType) → Type 0
IsWhole types = option_map_or are_whole types false ≡ true

whole_known : (o : Option (List CellType)) → IsWhole o → Known o
whole_known None whole = absurd cc
whole_known (Some types) whole = refl

-- ---- what has types is made of what has types

of_selected : (c : Cond) (o : Option (List CellType)) → Known (selected_types c o) → Known o
of_selected c None known = known
of_selected c (Some types) known = refl

of_projected : (exprs : List Expr) (o : Option (List CellType)) → Known (projected_types exprs o) → Known o
of_projected exprs None known = known
of_projected exprs (Some types) known = refl

of_product : (a b : Option (List CellType)) → Known (product_types a b) → Known a × Known b
of_product None b known = absurd cc
of_product (Some types) None known = absurd cc
of_product (Some types) (Some others) known = (refl, refl)

of_union : (a b : Option (List CellType)) → Known (both_types a b) → Known a × Known b
of_union None b known = absurd cc
of_union (Some types) None known = absurd cc
of_union (Some types) (Some others) known = (refl, refl)

of_published : (at : ℕ) (a b c : Option (List CellType)) → Known (published_types at a b c) → Known a × Known b × Known c
of_published at None b c known = absurd cc
of_published at (Some base) None c known = absurd cc
of_published at (Some base) (Some mine) None known = absurd cc
of_published at (Some base) (Some mine) (Some later) known = (refl, refl, refl)

known_same : (a b : Option (List CellType)) → a ≡ b → Known b → Known a
known_same a b same known = ap (λ (o : Option (List CellType)). is_some o) same ∙ known

module _ (tables : List Table) (steps : StepTypes) where
  abbrev typing : Plain → Option (List CellType)
  typing query = query_types tables steps query

  -- ---- queries from their leaves

  selected_same : (c : Cond) (query : Plain) → typing (selected c query) ≡ typing (select query c)
  selected_same c (select query first) = go (typing query)
    where
      two : (types : List CellType) (b : Bool) → cond (b && cond_is_typed types c) (Some types) None ≡ selected_types c (cond b (Some types) None)
      two types true = refl
      two types false = refl

      go : (o : Option (List CellType)) → selected_types (e.and first c) o ≡ selected_types c (selected_types first o)
      go None = refl
      go (Some types) = two types (cond_is_typed types first)
  selected_same c (scan table version) = refl
  selected_same c (step j) = refl
  selected_same c (project query exprs) = refl
  selected_same c (product l r) = refl
  selected_same c (union l r) = refl
  selected_same c (given rows) = refl
  selected_same c (publish at b m l) = refl

  -- two projections as one
  joined_same : (exprs inner : List Expr) (o : Option (List CellType)) → Known (projected_types exprs (projected_types inner o))
      → projected_types (substituted_each exprs inner) o ≡ projected_types exprs (projected_types inner o)
  joined_same exprs inner None known = refl
  joined_same exprs inner (Some types) known = go (exprs_types types inner) refl known
    where
      go : (o : Option (List CellType)) → exprs_types types inner ≡ o → Known (projected_types exprs o) → exprs_types types (substituted_each exprs inner) ≡ projected_types exprs o
      go None are known = absurd cc
      go (Some mids) are known = substituted-types types inner mids are exprs known

  projected_same : (exprs : List Expr) (query : Plain) → Known (typing (project query exprs)) → typing (projected exprs query) ≡ typing (project query exprs)
  projected_same exprs (project query inner) known =
      let same = joined_same exprs inner (typing query) known in
      go (is_small (substituted_each exprs inner)) (projected_same (substituted_each exprs inner) query (known_same _ _ same known) ∙ same)
    where
      go : (b : Bool) → typing (projected (substituted_each exprs inner) query) ≡ typing (project (project query inner) exprs)
          → typing (cond b (projected (substituted_each exprs inner) query) (project (project query inner) exprs)) ≡ typing (project (project query inner) exprs)
      go true same = same
      go false same = refl
  projected_same exprs (scan table version) known = refl
  projected_same exprs (step j) known = refl
  projected_same exprs (select query c) known = refl
  projected_same exprs (product l r) known = refl
  projected_same exprs (union l r) known = refl
  projected_same exprs (given rows) known = refl
  projected_same exprs (publish at b m l) known = refl

  rebuilt_same : (query : Plain) → Known (typing query) → typing (rebuilt query) ≡ typing query
  rebuilt_same (scan table version) known = refl
  rebuilt_same (step j) known = refl
  rebuilt_same (select query c) known = selected_same c (rebuilt query) ∙ ap (selected_types c) (rebuilt_same query (of_selected c (typing query) known))
  rebuilt_same (project query exprs) known =
      let same = ap (projected_types exprs) (rebuilt_same query (of_projected exprs (typing query) known)) in
      projected_same exprs (rebuilt query) (known_same _ _ same known) ∙ same
  rebuilt_same (product l r) known =
      let parts = of_product (typing l) (typing r) known in λ i. product_types (rebuilt_same l parts.0 i) (rebuilt_same r parts.1 i)
  rebuilt_same (union l r) known =
      let parts = of_union (typing l) (typing r) known in λ i. both_types (rebuilt_same l parts.0 i) (rebuilt_same r parts.1 i)
  rebuilt_same (given rows) known = refl
  rebuilt_same (publish at b m l) known =
      let parts = of_published at (typing b) (typing m) (typing l) known in
      λ i. published_types at (rebuilt_same b parts.0 i) (rebuilt_same m parts.1 i) (rebuilt_same l parts.2 i)

  -- ---- a step in the place of its use

  inlined_same : (j : ℕ) (own : Plain) → typing own ≡ steps j → (query : Plain) → typing (inlined j own query) ≡ typing query
  inlined_same j own is (scan table version) = refl
  inlined_same j own is (step i) = go (i == j) refl
    where
      go : (b : Bool) → (i == j) ≡ b → typing (cond b own (step i)) ≡ steps i
      go true same = is ∙ sym (ap steps (eqb-true i j same))
      go false same = refl
  inlined_same j own is (select query c) = ap (selected_types c) (inlined_same j own is query)
  inlined_same j own is (project query exprs) = ap (projected_types exprs) (inlined_same j own is query)
  inlined_same j own is (product l r) = λ i. product_types (inlined_same j own is l i) (inlined_same j own is r i)
  inlined_same j own is (union l r) = λ i. both_types (inlined_same j own is l i) (inlined_same j own is r i)
  inlined_same j own is (given rows) = refl
  inlined_same j own is (publish at b m l) = λ i. published_types at (inlined_same j own is b i) (inlined_same j own is m i) (inlined_same j own is l i)

  -- ---- programs over the types of all steps

  -- a step has its types
  abbrev pub StepIsTyped : PlainStep → Type 0
  StepIsTyped s = (typing s.query ≡ steps s.j) × IsWhole (steps s.j)

  abbrev pub AreTyped : List PlainStep → Plain → Type 0
  AreTyped own last = AllByRecursion StepIsTyped own × Known (typing last)

  abbrev IsRight : PlainProgram → Type 0
  IsRight program = AreTyped program.steps program.last

  -- each query is changed, and has the types that it had
  each_same : (put : Plain → Plain) → ((query : Plain) → Known (typing query) → typing (put query) ≡ typing query) → (own : List PlainStep)
      → AllByRecursion StepIsTyped own → AllByRecursion StepIsTyped (map (λ (s : PlainStep). record s { query = put s.query }) own)
  each_same put same [] are = tt
  each_same put same (s ∷ own) are = ((same s.query (known_same _ _ are.0.0 (whole_known (steps s.j) are.0.1)) ∙ are.0.0, are.0.1), each_same put same own are.1)

  settled_typed : (own : List PlainStep) (last : Plain) → AreTyped own last → AreTyped (settled own last).steps (settled own last).last
  settled_typed [] last are = are
  settled_typed (s ∷ own) last are = go (stays s (settled own last)) are.0.0 (settled_typed own last (are.0.1, are.1))
    where
      go : (b : Bool) → StepIsTyped s → IsRight (settled own last)
          → IsRight (cond b (record (settled own last) { steps = s ∷ (settled own last).steps }) (program_inlined s.j s.query (settled own last)))
      go true is rest = ((is, rest.0), rest.1)
      go false is rest = (
        each_same (inlined s.j s.query) (λ query known. inlined_same s.j s.query is.0 query) (settled own last).steps rest.0,
        known_same _ _ (inlined_same s.j s.query is.0 (settled own last).last) rest.1,
      )

  merged_typed : (program : PlainProgram) → AreTyped program.steps program.last → AreTyped (merged program).steps (merged program).last
  merged_typed program are =
      let rest = settled_typed program.steps program.last are in
      (each_same rebuilt rebuilt_same (settled program.steps program.last).steps rest.0, known_same _ _ (rebuilt_same (settled program.steps program.last).last rest.1) rest.1)

  -- ---- and over those of the steps before each

  abbrev Agree : List ℕ → StepTypes → Type 0
  Agree earlier own = (j : ℕ) → is_among earlier j ≡ true → own j ≡ steps j

  module _ (earlier : List ℕ) (own : StepTypes) (agree : Agree earlier own) where
    query_agrees : (query : Plain) → query_is_built earlier query ≡ true → query_types tables own query ≡ typing query
    query_agrees (scan table version) built = refl
    query_agrees (step j) built = agree j built
    query_agrees (select query c) built = ap (selected_types c) (query_agrees query (and_parts (query_is_built earlier query) _ built).0)
    query_agrees (project query exprs) built = ap (projected_types exprs) (query_agrees query (and_parts (query_is_built earlier query) _ built).0)
    query_agrees (product l r) built =
        let parts = and_parts (query_is_built earlier l) _ built in λ i. product_types (query_agrees l parts.0 i) (query_agrees r parts.1 i)
    query_agrees (union l r) built =
        let parts = and_parts (query_is_built earlier l) _ built in λ i. both_types (query_agrees l parts.0 i) (query_agrees r parts.1 i)
    query_agrees (given rows) built = refl
    query_agrees (publish at b m l) built =
        let parts = and_parts (query_is_built earlier b) _ built in
        let others = and_parts (query_is_built earlier m) _ parts.1 in
        λ i. published_types at (query_agrees b parts.0 i) (query_agrees m others.0 i) (query_agrees l others.1 i)

    rows_agree : (query : Plain) → rows_are_built earlier query ≡ true → query_types tables own query ≡ typing query
    rows_agree (union l r) built =
        let parts = and_parts (rows_are_built earlier l) _ built in λ i. both_types (rows_agree l parts.0 i) (rows_agree r parts.1 i)
    rows_agree (project query exprs) built = ap (projected_types exprs) (query_agrees query (and_parts (query_is_built earlier query) _ built).0)
    rows_agree (scan table version) built = refl
    rows_agree (step j) built = agree j built
    rows_agree (select query c) built = query_agrees (select query c) built
    rows_agree (product l r) built = query_agrees (product l r) built
    rows_agree (given rows) built = refl
    rows_agree (publish at b m l) built = query_agrees (publish at b m l) built

    step_agrees : (query : Plain) → step_is_built earlier query ≡ true → query_types tables own query ≡ typing query
    step_agrees (union l r) built =
        let parts = and_parts (rows_are_built earlier l) _ built in λ i. both_types (rows_agree l parts.0 i) (rows_agree r parts.1 i)
    step_agrees (project query exprs) built = query_agrees (project query exprs) built
    step_agrees (scan table version) built = refl
    step_agrees (step j) built = agree j built
    step_agrees (select query c) built = query_agrees (select query c) built
    step_agrees (product l r) built = query_agrees (product l r) built
    step_agrees (given rows) built = refl
    step_agrees (publish at b m l) built = query_agrees (publish at b m l) built

  agree_more : (earlier : List ℕ) (own : StepTypes) (n : ℕ) (types : Option (List CellType)) → types ≡ steps n → Agree earlier own → Agree (n ∷ earlier) (with_types n types own)
  agree_more earlier own n types is agree j among = go (j == n) (n == j) refl (turned j n) among
    where
      turned : (j n : ℕ) → (j == n) ≡ false → (n == j) ≡ false
      turned j n e = eq_turned j n e

      go : (b c : Bool) → (j == n) ≡ b → ((j == n) ≡ false → c ≡ false) → (c || is_among earlier j) ≡ true → cond b types (own j) ≡ steps j
      go true c same other among = is ∙ sym (ap steps (eqb-true j n same))
      go false c same other among = agree j (sym (ap (λ t. t || is_among earlier j) (other same)) ∙ among)

  -- no step has a number that is not there
  abbrev IsFresh : List ℕ → StepTypes → Type 0
  IsFresh earlier own = (j : ℕ) → is_among earlier j ≡ false → own j ≡ None

  fresh_more : (earlier : List ℕ) (own : StepTypes) (n : ℕ) (types : Option (List CellType)) → IsFresh earlier own → IsFresh (n ∷ earlier) (with_types n types own)
  fresh_more earlier own n types fresh j absent = go (n == j) (is_among earlier j) refl refl absent
    where
      go : (b c : Bool) → (n == j) ≡ b → is_among earlier j ≡ c → (b || c) ≡ false → cond (j == n) types (own j) ≡ None
      go true c same is absent = absurd cc
      go false true same is absent = absurd cc
      go false false same is absent = ap (λ b. cond b types (own j)) (eq_turned n j same) ∙ fresh j is

  above_absent : (earlier : List ℕ) (j : ℕ) → is_above earlier j ≡ true → is_among earlier j ≡ false
  above_absent [] j above = refl
  above_absent (i ∷ earlier) j above =
      let p = and_parts (nat_lt i j) (is_above earlier j) above in
      λ k. not_eq i j (ltb-true i j p.0) k || above_absent earlier j p.1 k

  abbrev IsTyped : List ℕ → StepTypes → List PlainStep → Plain → Type 0
  IsTyped earlier own rest last =
      (steps_are_typed tables rest own && is_some (query_types tables (steps_types tables rest own) last)) ≡ true

  typed_behind : (earlier : List ℕ) (own : StepTypes) → Agree earlier own → IsFresh earlier own → (rest : List PlainStep) (last : Plain)
      → steps_are_built earlier rest ≡ true → query_is_built (numbers_after earlier rest) last ≡ true → AreTyped rest last → IsTyped earlier own rest last
  typed_behind earlier own agree fresh [] last built last_built are = known_same _ _ (query_agrees earlier own agree last last_built) are.1
  typed_behind earlier own agree fresh (s ∷ rest) last built last_built are =
      let p = and_parts (is_above earlier s.j) (step_is_built earlier s.query && steps_are_built (s.j ∷ earlier) rest) built in
      let q = and_parts (step_is_built earlier s.query) (steps_are_built (s.j ∷ earlier) rest) p.1 in
      let same = step_agrees earlier own agree s.query q.0 ∙ are.0.0.0 in
      let new : step_is_typed (own s.j) (query_types tables own s.query) ≡ true =
      ap (λ o. step_is_typed o (query_types tables own s.query)) (fresh s.j (above_absent earlier s.j p.0)) ∙ ap (λ (o : Option (List CellType)). option_map_or are_whole o false) same ∙ are.0.0.1 in
      let more = typed_behind (s.j ∷ earlier) (with_types s.j (query_types tables own s.query) own) (agree_more earlier own s.j (query_types tables own s.query) same agree) (fresh_more earlier own s.j (query_types tables own s.query) fresh) rest last q.1 last_built (are.0.1, are.1) in
      ap (λ b. (b && steps_are_typed tables rest (with_types s.j (query_types tables own s.query) own))
      && is_some (query_types tables (steps_types tables rest (with_types s.j (query_types tables own s.query) own)) last)) new ∙ more

  -- a well-built program has types, if each of its steps has the types of its table
  pub merged_is_typed : (program : PlainProgram) → is_well_built (merged program) ≡ true → AreTyped program.steps program.last → is_typed tables (merged program) ≡ true
  merged_is_typed program built are =
      let p = and_parts (steps_are_built [] (merged program).steps) (query_is_built (numbers_after [] (merged program).steps) (merged program).last) built in
      typed_behind [] no_types (λ j among. absurd cc) (λ j absent. refl) (merged program).steps (merged program).last p.0 p.1 (merged_typed program are)
