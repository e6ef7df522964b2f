-- Plain programs are well built: their conditions and expressions are those of annotated programs with columns for columns, and new identities are made in
-- the projections of INSERT steps alone.
use Rattle.std.proofs.Common.{◌≡◌, ℕ, zero, suc, ◌+◌, Bool, true, false, List, [], ◌∷◌, ◌++◌, refl, sym, ap, ◌∙◌, subst, map, ◌⊎◌, inl, inr}
use Rattle.std.specs.Prelude.{◌&&◌, nat_lt, Some, None}
use Rattle.std.specs.List.{list_all, AllByRecursion}
use Rattle.std.proofs.lemmas.Bool.{and_parts, false≢true, lt-ltb}
use Rattle.std.proofs.lemmas.List.Folds.{list_all-append}
use Rattle.gp_base.specs.declared.cell.Cell.TheVariants as cell
use Rattle.gp_base.specs.declared.token.Token.TheVariants.{Queried}
use Rattle.gp_base.specs.Tokens.{once}
use Rattle.gp_expr.specs.Expressions as e
use Rattle.gp_expr.specs.Expressions.{Expr, Cond}
use Rattle.gp_expr.specs.ExpressionForms.{is_simple, cond_is_simple}
use Rattle.gp_expr.specs.Substitution.{substituted_each, substituted_cond}
use Rattle.gp_algebra.specs.Plain as p
use Rattle.gp_algebra.specs.Plain.{Plain}
use Rattle.gp_algebra.specs.WellBuilt.{makes_no_identity, parts_make_no_identity, may_be_identity, query_is_built, rows_are_built, step_is_built, is_above, steps_are_built, numbers_after, is_well_built}
use Rattle.gp_algebra.specs.AnnotatedQueries as q
use Rattle.gp_algebra.specs.AnnotatedQueries.{Change, Query, QueryStep, Program}
use Rattle.gp_algebra.specs.QueryForms.{IsTable, IsSomeTable, IsJoin, IsSource, IsBranch, AreNew, IsStep, IsAnswer, is_sound, AreAfter, AreRising, AreSteps, HasSteps, reads_only, steps_read, numbers_with}
use Rattle.gp_algebra.specs.AnnotatedQueries.{step_table}
use Rattle.gp_prov.specs.Encoding.{noted}
use Rattle.gp_prov.specs.ToPlain.{system_width, users_from, identities_from, times_from, product_of, changed_columns, new_columns, answer_columns, widths_of, plain_query, plain_last, plain_step, plain_program}
use Rattle.gp_algebra.specs.Statements.{columns_behind}
use Rattle.gp_prov.proofs.MeaningLemmas.{plain_table}
use Rattle.gp_expr.proofs.SubstitutionLemmas.{simple_cond_substituted, simple_each_substituted}
use Rattle.gp_base.proofs.SmallLemmas.{all_weaker, both_follow}

both : {a b : Bool} → a ≡ true → b ≡ true → (a && b) ≡ true
both x y = λ i. x i && y i

-- a weaker test of each item

all_joined : {X : Type 0} (f : X → Bool) (xs ys : List X) → list_all f xs ≡ true → list_all f ys ≡ true → list_all f (xs ++ ys) ≡ true
all_joined f xs ys all others = list_all-append f xs ys ∙ both all others

-- ---- expressions that make no identity

-- two tests follow from two others

simple_makes_none : (expr : Expr) → is_simple expr ≡ true → makes_no_identity expr ≡ true
simple_makes_none (e.col n) so = refl
simple_makes_none (e.constant x) so = refl
simple_makes_none (e.add a b) so = both_follow (is_simple a) (is_simple b) _ _ (simple_makes_none a) (simple_makes_none b) so
simple_makes_none (e.sub a b) so = both_follow (is_simple a) (is_simple b) _ _ (simple_makes_none a) (simple_makes_none b) so
simple_makes_none (e.mul a b) so = both_follow (is_simple a) (is_simple b) _ _ (simple_makes_none a) (simple_makes_none b) so
simple_makes_none (e.neg a) so = simple_makes_none a so
simple_makes_none (e.case c a b) so =
    both_follow (cond_is_simple c) (is_simple a && is_simple b) _ _ (λ simple. simple)
    (both_follow (is_simple a) (is_simple b) _ _ (simple_makes_none a) (simple_makes_none b)) so
simple_makes_none (e.new_id t k b parts) so = absurd (false≢true so)
simple_makes_none (e.times a b) so = absurd (false≢true so)

none_may_be : (expr : Expr) → makes_no_identity expr ≡ true → may_be_identity expr ≡ true
none_may_be (e.new_id t k b parts) so = absurd (false≢true so)
none_may_be expr so = so

-- ---- the columns of projections

columns_simple : (at width : ℕ) → list_all is_simple (columns_behind at width) ≡ true
columns_simple at zero = refl
columns_simple at (suc more) = columns_simple (suc at) more

module _ (prov : Bool) where
  users_simple : (at : ℕ) (widths : List ℕ) → list_all is_simple (users_from prov at widths) ≡ true
  users_simple at [] = refl
  users_simple at (width ∷ widths) =
      all_joined is_simple (columns_behind at width) (users_from prov (at + (width + system_width prov)) widths) (columns_simple at width)
      (users_simple (at + (width + system_width prov)) widths)

  identities_make_none : (at : ℕ) (widths : List ℕ) → parts_make_no_identity (identities_from prov at widths) ≡ true
  identities_make_none at [] = refl
  identities_make_none at (width ∷ widths) = identities_make_none (at + (width + system_width prov)) widths

  times_make_none : (at : ℕ) (widths : List ℕ) (expr : Expr) → makes_no_identity expr ≡ true → makes_no_identity (times_from prov at widths expr) ≡ true
  times_make_none at [] expr so = so
  times_make_none at (width ∷ widths) expr so =
      times_make_none (at + (width + system_width prov)) widths (e.times expr (e.col (suc (suc (suc (at + width)))))) (both so refl)

  product_makes_none : (widths : List ℕ) → makes_no_identity (product_of prov widths) ≡ true
  product_makes_none [] = refl
  product_makes_none (width ∷ widths) = times_make_none (width + system_width prov) widths (e.col (suc (suc (suc width)))) refl

noted_all : {X : Type 0} (f : X → Bool) (prov : Bool) (x : X) → f x ≡ true → list_all f (noted prov x) ≡ true
noted_all f true x so = both so refl
noted_all f false x so = refl

module _ (prov : Bool) (widths : List ℕ) where
  test_simple : (c : Cond) → cond_is_simple c ≡ true → cond_is_simple (substituted_cond c (users_from prov 0 widths)) ≡ true
  test_simple c so = simple_cond_substituted c (users_from prov 0 widths) (users_simple prov 0 widths) so

  each_makes_none : (exprs : List Expr) → list_all is_simple exprs ≡ true → list_all makes_no_identity (substituted_each exprs (users_from prov 0 widths)) ≡ true
  each_makes_none exprs so =
      all_weaker is_simple makes_no_identity simple_makes_none (substituted_each exprs (users_from prov 0 widths))
      (simple_each_substituted exprs (users_from prov 0 widths) (users_simple prov 0 widths) so)

  changed_make_none : (exprs : List Expr) (change : Change) → list_all is_simple exprs ≡ true → cond_is_simple change.cond ≡ true →
      list_all makes_no_identity (changed_columns prov widths exprs (Some change)) ≡ true
  changed_make_none exprs change so test =
      let simple = test_simple change.cond test in
      all_joined makes_no_identity (substituted_each exprs (users_from prov 0 widths)) _ (each_makes_none exprs so)
      (both (both simple refl) (noted_all makes_no_identity prov _ (both simple refl)))

  answer_makes_none : (exprs : List Expr) → list_all is_simple exprs ≡ true → list_all makes_no_identity (answer_columns prov widths exprs) ≡ true
  answer_makes_none exprs so =
      all_joined makes_no_identity (substituted_each exprs (users_from prov 0 widths)) (noted prov (product_of prov widths)) (each_makes_none exprs so)
      (noted_all makes_no_identity prov (product_of prov widths) (product_makes_none prov widths))

  new_may_be : (t k b : ℕ) (exprs : List Expr) → list_all is_simple exprs ≡ true → list_all may_be_identity (new_columns prov t k b widths exprs) ≡ true
  new_may_be t k b exprs so =
      let annotation : Expr = times_from prov 0 widths (e.constant (cell.Mono (once (Queried t k)))) in
      all_joined may_be_identity (substituted_each exprs (users_from prov 0 widths)) _
      (all_weaker makes_no_identity may_be_identity none_may_be (substituted_each exprs (users_from prov 0 widths)) (each_makes_none exprs so))
      (both (identities_make_none prov 0 widths)
      (noted_all may_be_identity prov annotation (none_may_be annotation (times_make_none prov 0 widths (e.constant (cell.Mono (once (Queried t k)))) refl))))

-- ---- queries

rows_built : (earlier : List ℕ) (query : Plain) → query_is_built earlier query ≡ true → rows_are_built earlier query ≡ true
rows_built earlier (p.union left right) so =
    both_follow (query_is_built earlier left) (query_is_built earlier right) _ _ (rows_built earlier left) (rows_built earlier right) so
rows_built earlier (p.project query exprs) so =
    both_follow (query_is_built earlier query) (list_all makes_no_identity exprs) _ _ (λ built. built) (all_weaker makes_no_identity may_be_identity none_may_be exprs) so
rows_built earlier query so = so

query_step_built : (earlier : List ℕ) (query : Plain) → query_is_built earlier query ≡ true → step_is_built earlier query ≡ true
query_step_built earlier (p.union left right) so =
    both_follow (query_is_built earlier left) (query_is_built earlier right) _ _ (rows_built earlier left) (rows_built earlier right) so
query_step_built earlier query so = so

module _ (columns : ℕ → ℕ) (of_step : ℕ → ℕ) (prov : Bool) (earlier : List ℕ) where
  abbrev planned : Query → Plain
  planned query = plain_query columns of_step prov query

  abbrev parts : Query → List ℕ
  parts query = widths_of columns of_step prov query

  abbrev IsBuilt : Query → Type 0
  IsBuilt query = query_is_built earlier (planned query) ≡ true

  select_built : (query : Query) (c : Cond) → (is_sound query ≡ true → IsBuilt query) → is_sound (q.select query c) ≡ true → IsBuilt (q.select query c)
  select_built query c built sound =
      let sounds = and_parts (is_sound query) (cond_is_simple c) sound in
      both (built sounds.0) (test_simple prov (parts query) c sounds.1)

  table_built : (table : ℕ) (query : Query) → IsTable columns of_step table query → reads_only earlier query ≡ true → is_sound query ≡ true → IsBuilt query
  table_built table (q.scan own version) is reads sound = refl
  table_built table (q.step j) is reads sound = reads
  table_built table (q.select query c) is reads sound = select_built query c (table_built table query is reads) sound
  table_built table (q.project query exprs None) is reads sound = absurd is
  table_built table (q.project query exprs (Some change)) is reads sound =
      let sounds = and_parts (is_sound query) (list_all is_simple exprs && cond_is_simple change.cond) sound in
      let simple = and_parts (list_all is_simple exprs) (cond_is_simple change.cond) sounds.1 in
      both (table_built table query is.0 reads sounds.0) (changed_make_none prov (parts query) exprs change simple.0 simple.1)
  table_built table (q.publish base mine later) is reads sound =
      let read = and_parts (reads_only earlier base) (reads_only earlier mine && reads_only earlier later) reads in
      let others_read = and_parts (reads_only earlier mine) (reads_only earlier later) read.1 in
      let sounds = and_parts (is_sound base) (is_sound mine && is_sound later) sound in
      let others_sound = and_parts (is_sound mine) (is_sound later) sounds.1 in
      both (table_built table base is.0 read.0 sounds.0)
      (both (table_built table mine is.1 others_read.0 others_sound.0) (table_built table later is.2 others_read.1 others_sound.1))
  table_built table (q.product left right) is reads sound = absurd is
  table_built table (q.union left right) is reads sound = absurd is
  table_built table (q.given t k rows) is reads sound = absurd is
  table_built table (q.new_rows t k b query) is reads sound = absurd is

  one_table_built : (query : Query) → IsSomeTable columns of_step query → reads_only earlier query ≡ true → is_sound query ≡ true → IsBuilt query
  one_table_built query is reads sound = table_built is.0 query is.1 reads sound

  join_built : (query : Query) → IsJoin columns of_step query → reads_only earlier query ≡ true → is_sound query ≡ true → IsBuilt query
  join_built (q.product left right) is reads sound =
      let read = and_parts (reads_only earlier left) (reads_only earlier right) reads in
      let sounds = and_parts (is_sound left) (is_sound right) sound in
      both (join_built left is.0 read.0 sounds.0) (one_table_built right is.1 read.1 sounds.1)
  join_built query is reads sound = one_table_built query is reads sound

  source_built : (query : Query) → IsSource columns of_step query → reads_only earlier query ≡ true → is_sound query ≡ true → IsBuilt query
  source_built (q.select query c) is reads sound = select_built query c (join_built query is reads) sound
  source_built query is reads sound = join_built query is reads sound

  -- a query and the expressions of a projection without a change
  projection_sound : (query : Query) (exprs : List Expr) → is_sound (q.project query exprs None) ≡ true → (is_sound query ≡ true) × (list_all is_simple exprs ≡ true)
  projection_sound query exprs sound =
      let sounds = and_parts (is_sound query) (list_all is_simple exprs && true) sound in
      (sounds.0, (and_parts (list_all is_simple exprs) true sounds.1).0)

  new_built : (table : ℕ) (query : Query) → AreNew columns of_step table query → reads_only earlier query ≡ true → is_sound query ≡ true → rows_are_built earlier (planned query) ≡ true
  new_built table (q.given t k rows) is reads sound = refl
  new_built table (q.new_rows t k b (q.project query exprs None)) is reads sound =
      let sounds = projection_sound query exprs (and_parts (is_sound (q.project query exprs None)) (nat_lt 0 t && (nat_lt 0 k && nat_lt 0 b)) sound).0 in
      both (source_built query is.0 reads sounds.0) (new_may_be prov (parts query) t k b exprs sounds.1)
  new_built table (q.new_rows t k b query) is reads sound = absurd is
  new_built table (q.union left right) is reads sound =
      let read = and_parts (reads_only earlier left) (reads_only earlier right) reads in
      let sounds = and_parts (is_sound left) (is_sound right) sound in
      both (new_built table left is.0 read.0 sounds.0) (new_built table right is.1 read.1 sounds.1)
  new_built table query is reads sound = absurd is

  step_built : (table : ℕ) (query : Query) → IsStep columns of_step table query → reads_only earlier query ≡ true → is_sound query ≡ true → step_is_built earlier (planned query) ≡ true
  step_built table (q.union left right) is reads sound =
      let read = and_parts (reads_only earlier left) (reads_only earlier right) reads in
      let sounds = and_parts (is_sound left) (is_sound right) sound in
      both (rows_built earlier (planned left) (table_built table left is.0 read.0 sounds.0)) (new_built table right is.1 read.1 sounds.1)
  step_built table query is reads sound = query_step_built earlier (planned query) (table_built table query is reads sound)

  abbrev last : Query → Plain
  last query = plain_last columns of_step prov query

  branch_built : (query : Query) → IsBranch columns of_step query → reads_only earlier query ≡ true → is_sound query ≡ true → query_is_built earlier (last query) ≡ true
  branch_built (q.project query exprs None) is reads sound =
      let sounds = projection_sound query exprs sound in
      both (source_built query is reads sounds.0) (answer_makes_none prov (parts query) exprs sounds.1)
  branch_built query is reads sound = absurd is

  answer_built : (query : Query) → IsAnswer columns of_step query → reads_only earlier query ≡ true → is_sound query ≡ true → query_is_built earlier (last query) ≡ true
  answer_built (q.union left right) is reads sound =
      let read = and_parts (reads_only earlier left) (reads_only earlier right) reads in
      let sounds = and_parts (is_sound left) (is_sound right) sound in
      both (answer_built left is.0 read.0 sounds.0) (branch_built right is.1 read.1 sounds.1)
  answer_built query is reads sound = branch_built query is reads sound

  contents_built : (query : Query) → IsSomeTable columns of_step query → reads_only earlier query ≡ true → is_sound query ≡ true → query_is_built earlier (last query) ≡ true
  contents_built query is reads sound = ap (query_is_built earlier) (plain_table columns of_step prov is.0 query is.1) ∙ one_table_built query is reads sound

  last_built : (query : Query) → IsAnswer columns of_step query ⊎ IsSomeTable columns of_step query → reads_only earlier query ≡ true → is_sound query ≡ true →
      query_is_built earlier (last query) ≡ true
  last_built query (inl answer) reads sound = answer_built query answer reads sound
  last_built query (inr contents) reads sound = contents_built query contents reads sound

-- ---- programs

-- each step is above these numbers
abbrev AreAbove : List ℕ → List QueryStep → Type 0
AreAbove earlier steps = AllByRecursion (λ (step : QueryStep). is_above earlier step.j ≡ true) steps

above_nothing : (steps : List QueryStep) → AreAbove [] steps
above_nothing [] = tt
above_nothing (step ∷ steps) = (refl, above_nothing steps)

one_more_above : (n : ℕ) (earlier : List ℕ) (steps : List QueryStep) → AreAfter n steps → AreAbove earlier steps → AreAbove (n ∷ earlier) steps
one_more_above n earlier [] after above = tt
one_more_above n earlier (step ∷ steps) after above = (both (lt-ltb n step.j after.0) above.0, one_more_above n earlier steps after.1 above.1)

numbers_same : (columns : ℕ → ℕ) (of_step : ℕ → ℕ) (prov : Bool) (earlier : List ℕ) (steps : List QueryStep) →
    numbers_after earlier (map (plain_step columns of_step prov) steps) ≡ numbers_with earlier steps
numbers_same columns of_step prov earlier [] = refl
numbers_same columns of_step prov earlier (step ∷ steps) = numbers_same columns of_step prov (step.j ∷ earlier) steps

steps_built : (columns : ℕ → ℕ) (of_step : ℕ → ℕ) (prov : Bool) (earlier : List ℕ) (steps : List QueryStep) → AreRising steps → AreSteps columns of_step steps →
    steps_read earlier steps ≡ true → list_all (λ (step : QueryStep). is_sound step.query) steps ≡ true → AreAbove earlier steps →
    steps_are_built earlier (map (plain_step columns of_step prov) steps) ≡ true
steps_built columns of_step prov earlier [] rising forms reads sound above = refl
steps_built columns of_step prov earlier (step ∷ steps) rising forms reads sound above =
    let read = and_parts (reads_only earlier step.query) (steps_read (step.j ∷ earlier) steps) reads in
    let sounds = and_parts (is_sound step.query) (list_all (λ (step : QueryStep). is_sound step.query) steps) sound in
    both above.0
    (both (step_built columns of_step prov earlier step.table step.query forms.0 read.0 sounds.0)
    (steps_built columns of_step prov (step.j ∷ earlier) steps rising.1 forms.1 read.1 sounds.1 (one_more_above step.j earlier steps rising.0 above.1)))

pub program_built : (columns : ℕ → ℕ) (prov : Bool) (program : Program) → HasSteps columns program →
    IsAnswer columns (step_table program.steps) program.last ⊎ IsSomeTable columns (step_table program.steps) program.last →
    is_well_built (plain_program columns prov program) ≡ true
program_built columns prov program has form =
    both (steps_built columns (step_table program.steps) prov [] program.steps has.rising has.forms has.reads has.sound (above_nothing program.steps))
    (subst (λ earlier. query_is_built earlier (plain_last columns (step_table program.steps) prov program.last) ≡ true)
    (sym (numbers_same columns (step_table program.steps) prov [] program.steps))
    (last_built columns (step_table program.steps) prov (numbers_with [] program.steps) program.last form has.last_reads has.last_sound))
