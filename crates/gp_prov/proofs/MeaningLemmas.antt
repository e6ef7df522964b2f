-- A plain program means the annotated one that it is made of, row for row.
use Rattle.std.proofs.Common.{◌≡◌, ℕ, suc, ◌+◌, Bool, true, false, cond, List, [], ◌∷◌, ◌++◌, length, refl, sym, ap, ◌∙◌, subst, arith, map}
use Rattle.std.specs.Prelude.{sum, ◌==◌, Some, None}
use Rattle.std.specs.List.{AllByRecursion}
use Rattle.gp_base.specs.declared.cell.Cell.{Cell}
use Rattle.gp_base.specs.declared.cell.Cell.TheVariants as cell
use Rattle.gp_base.specs.Annotated.{Annotated, Environment, monomials}
use Rattle.gp_base.specs.Tokens.{Monomial}
use Rattle.gp_algebra.specs.Answers.{values}
use Rattle.gp_algebra.specs.Effects.{given_from}
use Rattle.gp_algebra.specs.Plain.{no_steps, with_step, meaning as plain_meaning, steps_meaning as plain_steps_meaning, program_meaning as plain_program_meaning}
use Rattle.gp_algebra.specs.AnnotatedQueries as q
use Rattle.gp_algebra.specs.AnnotatedQueries.{Query, QueryStep, Program, step_table}
use Rattle.gp_algebra.specs.QueryForms.{AreAfter, AreRising, AreSteps, HasSteps, IsWellBuilt, IsTableProgram, IsTable, IsSomeTable, IsJoin, IsSource, IsBranch, AreWide, AreNew, IsStep, IsAnswer}
use Rattle.gp_algebra.specs.AnnotatedMeaning.{scanned, projected, crossed, renewed, meaning, steps_meaning, program_meaning}
use Rattle.gp_prov.specs.Encoding.{noted, encoded_row, encoded}
use Rattle.gp_prov.specs.ToPlain.{widths_of, changed_columns, new_columns, answer_columns, plain_query, plain_last, plain_step, plain_program}
use Rattle.gp_prov.proofs.Pairs.{Pairwise, pair_append, pair_map, pair_weaker, pair_flat_map, pair_filter, pair_is}
use Rattle.gp_prov.proofs.Codes.{Row, Coded, Joined, as_joined, one_more, passes_joined}
use Rattle.gp_prov.proofs.RowLemmas.{published_there, change_there, new_there, answered_there, Answered}
use Rattle.gp_base.proofs.SmallLemmas.{eq_itself, map-map, not_eq}
use Rattle.std.proofs.lemmas.Bool.{eqb-true}

-- ---- rows of tables

abbrev pub HaveWidths : (ℕ → ℕ) → Environment Monomial → Type 0
HaveWidths columns env = (version table : ℕ) → AllByRecursion (λ row. length row.cells ≡ columns table) (env version table)

coded_rows : (prov : Bool) (n : ℕ) (rows : List (Annotated Monomial)) → AllByRecursion (λ row. length row.cells ≡ n) rows →
    Pairwise (Coded prov n) (map (encoded_row prov) rows) (map (scanned monomials) rows)
coded_rows prov n [] wide = Pairwise.none
coded_rows prov n (row ∷ rows) wide = Pairwise.both (record { row = row; plain = refl; annotated = refl; wide = wide.0 }) (coded_rows prov n rows wide.1)

given_wide : (width t k n : ℕ) (rows : List (List Cell)) → AreWide (λ t. t) (λ j. j) width rows →
    AllByRecursion (λ row. length row.cells ≡ width) (given_from monomials t k n rows)
given_wide width t k n [] wide = tt
given_wide width t k n (row ∷ rows) wide = (wide.0, given_wide width t k (suc n) rows wide.1)

-- the annotated rows that are encoded and scanned
pub rows_between : (prov : Bool) (n : ℕ) {ps : List (List Cell)} {rs : List Row} → Pairwise (Coded prov n) ps rs →
    (rows : List (Annotated Monomial)) × (ps ≡ map (encoded_row prov) rows) × (rs ≡ map (scanned monomials) rows)
rows_between prov n Pairwise.none = ([], refl, refl)
rows_between prov n (Pairwise.both code codes) =
    let others = rows_between prov n codes in
    (code.row ∷ others.0, λ i. code.plain i ∷ others.1 i, λ i. code.annotated i ∷ others.2 i)

-- ---- queries

module _ (columns : ℕ → ℕ) (of_step : ℕ → ℕ) (prov : Bool) where
  abbrev parts : Query → List ℕ
  parts query = widths_of columns of_step prov query

  table_parts : (table : ℕ) (query : Query) → IsTable columns of_step table query → parts query ≡ columns table ∷ []
  table_parts table (q.scan own version) is = ap (λ t. columns t ∷ []) is
  table_parts table (q.step j) is = ap (λ t. columns t ∷ []) is
  table_parts table (q.select query c) is = table_parts table query is
  table_parts table (q.project query exprs None) is = absurd is
  table_parts table (q.project query exprs (Some change)) is = ap (λ n. n ∷ []) is.1
  table_parts table (q.publish base mine later) is = table_parts table base is.0
  table_parts table (q.product left right) is = absurd is
  table_parts table (q.union left right) is = absurd is
  table_parts table (q.given t k rows) is = absurd is
  table_parts table (q.new_rows t k b query) is = absurd is

  -- the contents of a table keep their system columns
  pub plain_table : (table : ℕ) (query : Query) → IsTable columns of_step table query → plain_last columns of_step prov query ≡ plain_query columns of_step prov query
  plain_table table (q.scan own version) is = refl
  plain_table table (q.step j) is = refl
  plain_table table (q.select query c) is = refl
  plain_table table (q.project query exprs None) is = absurd is
  plain_table table (q.project query exprs (Some change)) is = refl
  plain_table table (q.publish base mine later) is = refl
  plain_table table (q.product left right) is = absurd is
  plain_table table (q.union left right) is = absurd is
  plain_table table (q.given t k rows) is = absurd is
  plain_table table (q.new_rows t k b query) is = absurd is

  module _ (plain_steps : ℕ → List (List Cell)) (steps : ℕ → List Row) (env : Environment Monomial) (widths : HaveWidths columns env)
      (steps_are : (j : ℕ) → Pairwise (Coded prov (columns (of_step j))) (plain_steps j) (steps j)) where
    abbrev planned : Query → List (List Cell)
    planned query = plain_meaning plain_steps (encoded prov env) (plain_query columns of_step prov query)

    abbrev meant : Query → List Row
    meant query = meaning monomials steps env query

    total : (table : ℕ) (query : Query) → IsTable columns of_step table query → columns table ≡ sum (parts query)
    total table query is = let s : sum (parts query) ≡ 0 + columns table = ap sum (table_parts table query is) in omega arith

    joined_here : (table : ℕ) (query : Query) → IsTable columns of_step table query → (p : List Cell) (r : Row) → Coded prov (columns table) p r → Joined prov (parts query) p r
    joined_here table query is p r code = subst (λ ns. Joined prov ns p r) (sym (table_parts table query is)) (as_joined prov (columns table) p r code)

    pub table_is : (table : ℕ) (query : Query) → IsTable columns of_step table query → Pairwise (Coded prov (columns table)) (planned query) (meant query)
    table_is table (q.scan own version) is =
        subst (λ t. Pairwise (Coded prov (columns t)) (map (encoded_row prov) (env version own)) (map (scanned monomials) (env version own))) is
        (coded_rows prov (columns own) (env version own) (widths version own))
    table_is table (q.step j) is = subst (λ t. Pairwise (Coded prov (columns t)) (plain_steps j) (steps j)) is (steps_are j)
    table_is table (q.select query c) is =
        pair_filter (Coded prov (columns table)) _ _ (λ p r code. passes_joined prov (parts query) p r (joined_here table query is p r code) c) (table_is table query is)
    table_is table (q.project query exprs None) is = absurd is
    table_is table (q.project query exprs (Some change)) is =
        pair_map (Coded prov (columns table)) (values (changed_columns prov (parts query) exprs (Some change))) (projected monomials exprs (Some change))
        (λ p r code. change_there prov (columns table) (columns table) (parts query) exprs change is.1 (table_parts table query is.0) p r code) (table_is table query is.0)
    table_is table (q.publish base mine later) is =
        published_there prov (columns table) (sum (parts base)) (total table base is.0) (planned base) (planned mine) (planned later) (meant base) (meant mine) (meant later)
        (table_is table base is.0) (table_is table mine is.1) (table_is table later is.2)
    table_is table (q.product left right) is = absurd is
    table_is table (q.union left right) is = absurd is
    table_is table (q.given t k rows) is = absurd is
    table_is table (q.new_rows t k b query) is = absurd is

    one_table : (query : Query) → IsSomeTable columns of_step query → Pairwise (Joined prov (parts query)) (planned query) (meant query)
    one_table query is = pair_weaker (Joined prov (parts query)) (joined_here is.0 query is.1) (table_is is.0 query is.1)

    join_is : (query : Query) → IsJoin columns of_step query → Pairwise (Joined prov (parts query)) (planned query) (meant query)
    join_is (q.product left right) is =
        pair_flat_map (Joined prov (parts left ++ parts right)) (λ row. map (λ other. row ++ other) (planned right)) (λ row. map (crossed monomials row) (meant right))
        (λ p r join. pair_map (Joined prov (parts left ++ parts right)) (λ other. p ++ other) (crossed monomials r)
        (λ o s code. subst (λ ns. Joined prov (parts left ++ ns) (p ++ o) (crossed monomials r s)) (sym (table_parts is.1.0 right is.1.1))
        (one_more prov (parts left) (columns is.1.0) p o r s join code))
        (table_is is.1.0 right is.1.1))
        (join_is left is.0)
    join_is query is = one_table query is

    source_is : (query : Query) → IsSource columns of_step query → Pairwise (Joined prov (parts query)) (planned query) (meant query)
    source_is (q.select query c) is = pair_filter (Joined prov (parts query)) _ _ (λ p r join. passes_joined prov (parts query) p r join c) (join_is query is)
    source_is query is = join_is query is

    new_is : (table : ℕ) (query : Query) → AreNew columns of_step table query → Pairwise (Coded prov (columns table)) (planned query) (meant query)
    new_is table (q.given t k rows) is = coded_rows prov (columns table) (given_from monomials t k 1 rows) (given_wide (columns table) t k 1 rows is)
    new_is table (q.new_rows t k b (q.project query exprs None)) is =
        subst (λ rows. Pairwise (Coded prov (columns table)) (map (values (new_columns prov t k b (parts query) exprs)) (planned query)) rows)
        (sym (map-map (renewed monomials t k b) (projected monomials exprs None) (meant query)))
        (pair_map (Coded prov (columns table)) (values (new_columns prov t k b (parts query) exprs)) (λ r. renewed monomials t k b (projected monomials exprs None r))
        (λ p r join. new_there prov (parts query) exprs p r join (columns table) t k b is.1) (source_is query is.0))
    new_is table (q.new_rows t k b query) is = absurd is
    new_is table (q.union left right) is = pair_append (new_is table left is.0) (new_is table right is.1)
    new_is table query is = absurd is

    pub step_is : (table : ℕ) (query : Query) → IsStep columns of_step table query → Pairwise (Coded prov (columns table)) (planned query) (meant query)
    step_is table (q.union left right) is = pair_append (table_is table left is.0) (new_is table right is.1)
    step_is table query is = table_is table query is

    abbrev answered : Query → List (List Cell)
    answered query = plain_meaning plain_steps (encoded prov env) (plain_last columns of_step prov query)

    branch_is : (query : Query) → IsBranch columns of_step query → Pairwise (Answered prov) (answered query) (meant query)
    branch_is (q.project query exprs None) is =
        pair_map (Answered prov) (values (answer_columns prov (parts query) exprs)) (projected monomials exprs None)
        (λ p r join. answered_there prov (parts query) exprs p r join) (source_is query is)
    branch_is query is = absurd is

    pub answer_is : (query : Query) → IsAnswer columns of_step query → Pairwise (Answered prov) (answered query) (meant query)
    answer_is (q.union left right) is = pair_append (answer_is left is.0) (branch_is right is.1)
    answer_is query is = branch_is query is

    pub contents_are : (table : ℕ) (query : Query) → IsTable columns of_step table query → Pairwise (Coded prov (columns table)) (answered query) (meant query)
    contents_are table query is =
        subst (λ own. Pairwise (Coded prov (columns table)) (plain_meaning plain_steps (encoded prov env) own) (meant query)) (sym (plain_table table query is)) (table_is table query is)

-- ---- the table of each step

-- the number of each of these steps gives its table
abbrev AreNamed : (ℕ → ℕ) → List QueryStep → Type 0
AreNamed of_step [] = Unit {0}
AreNamed of_step (step ∷ steps) = (of_step step.j ≡ step.table) × AreNamed of_step steps

named_after : (first : QueryStep) (of_step : ℕ → ℕ) (steps : List QueryStep) → AreAfter first.j steps → AreNamed of_step steps →
    AreNamed (λ j. cond (first.j == j) first.table (of_step j)) steps
named_after first of_step [] after names = tt
named_after first of_step (step ∷ steps) after names =
    (ap (λ b. cond b first.table (of_step step.j)) (not_eq first.j step.j after.0) ∙ names.0, named_after first of_step steps after.1 names.1)

named : (steps : List QueryStep) → AreRising steps → AreNamed (step_table steps) steps
named [] rising = tt
named (step ∷ steps) rising =
    (ap (λ b. cond b step.table (step_table steps step.j)) (eq_itself step.j), named_after step (step_table steps) steps rising.0 (named steps rising.1))

-- ---- programs

-- the rows of each step encode those of the annotated one
abbrev pub StepsAre : (ℕ → ℕ) → (ℕ → ℕ) → Bool → (ℕ → List (List Cell)) → (ℕ → List Row) → Type 0
StepsAre columns of_step prov plain_steps steps = (j : ℕ) → Pairwise (Coded prov (columns (of_step j))) (plain_steps j) (steps j)

module _ (columns : ℕ → ℕ) (of_step : ℕ → ℕ) (prov : Bool) (env : Environment Monomial) (widths : HaveWidths columns env) where
  steps_go : (todo : List QueryStep) → AreNamed of_step todo → AreSteps columns of_step todo → (plain_steps : ℕ → List (List Cell)) (steps : ℕ → List Row) →
      StepsAre columns of_step prov plain_steps steps →
      StepsAre columns of_step prov (plain_steps_meaning (encoded prov env) (map (plain_step columns of_step prov) todo) plain_steps) (steps_meaning monomials env todo steps)
  steps_go [] names forms plain_steps steps are = are
  steps_go (step ∷ todo) names forms plain_steps steps are =
      let planned : List (List Cell) = plain_meaning plain_steps (encoded prov env) (plain_query columns of_step prov step.query) in
      let meant : List Row = meaning monomials steps env step.query in
      steps_go todo names.1 forms.1 (with_step step.j planned plain_steps) (with_step step.j meant steps)
      (λ j. elim (j == step.j) as (λ b. (j == step.j) ≡ b → Pairwise (Coded prov (columns (of_step j))) (cond b planned (plain_steps j)) (cond b meant (steps j))) [
        | true ↦ λ e. subst (λ t. Pairwise (Coded prov (columns t)) planned meant) (sym names.0 ∙ ap of_step (sym (eqb-true j step.j e)))
            (step_is columns of_step prov plain_steps steps env widths are step.table step.query forms.0)
        | false ↦ λ e. are j
      ] refl)

module _ (columns : ℕ → ℕ) (prov : Bool) (env : Environment Monomial) (widths : HaveWidths columns env) where
  pub steps_are : (program : Program) → HasSteps columns program →
      StepsAre columns (step_table program.steps) prov (plain_steps_meaning (encoded prov env) (plain_program columns prov program).steps no_steps)
      (steps_meaning monomials env program.steps no_steps)
  steps_are program has =
      steps_go columns (step_table program.steps) prov env widths program.steps (named program.steps has.rising) has.forms no_steps no_steps (λ j. Pairwise.none)

  -- an answer has the cells of the annotated rows and, with provenance, their monomials
  pub answers_are : (program : Program) → IsWellBuilt columns program →
      plain_program_meaning (encoded prov env) (plain_program columns prov program) ≡ map (λ (row : Row). row.cells ++ noted prov (cell.Mono row.annotation)) (program_meaning monomials env program)
  answers_are program built =
      pair_is (λ (row : Row). row.cells ++ noted prov (cell.Mono row.annotation)) (λ p r is. is)
      (answer_is columns (step_table program.steps) prov _ _ env widths (steps_are program built.steps) program.last built.answer)

  -- the contents of a table have its rows with their system columns
  pub tables_are : (table : ℕ) (program : Program) → IsTableProgram columns table program →
      Pairwise (Coded prov (columns table)) (plain_program_meaning (encoded prov env) (plain_program columns prov program)) (program_meaning monomials env program)
  tables_are table program built =
      contents_are columns (step_table program.steps) prov _ _ env widths (steps_are program built.steps) table program.last built.contents
