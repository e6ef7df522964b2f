-- Plain programs are in range, if the annotated ones that they are made of are.
use Rattle.gp_explain.proofs.Prelude.{◌≡◌, ◌≤◌, ℕ, zero, suc, ◌+◌, Bool, true, false, List, [], ◌∷◌, ◌++◌, length, map, refl, arith, Option, Some, None, AllByRecursion, Cell, Queried, monomials, IsInRange, AreInRange, each_append, Expr, substituted_each, Change, Query, QueryStep, Program, step_table, given_from, columns_behind, encoded_row, noted, system_width, users_from, identities_from, times_from, product_of, changed_columns, new_columns, answer_columns, widths_of, plain_query, plain_last, plain_step, plain_program, IsU32, ExprInRange, PartsInRange, QueryInRange, StepInRange, ProgramInRange}
use Rattle.std.proofs.Common.{sum}
use Rattle.std.proofs.lemmas.List.Sums.{sum_by-cons}
use Rattle.gp_base.specs.declared.cell.Cell.TheVariants as cell
use Rattle.gp_base.specs.declared.token.Token.{Token}
use Rattle.gp_base.specs.declared.token.Token.TheVariants.{Inserted}
use Rattle.gp_base.specs.MonomialForms.{IsMonomial, IsToken}
use Rattle.gp_base.specs.Tokens as m
use Rattle.gp_expr.specs.Expressions as e
use Rattle.gp_algebra.specs.AnnotatedQueries as q
use Rattle.gp_explain.proofs.SubstitutionRanges.{IsFree, CondIsFree}

-- ---- how far the columns of joined rows reach, whose parts have so many user columns each

abbrev pub reach : List ℕ → ℕ
reach [] = 0
reach (width ∷ widths) = (width + 3) + reach widths

pub reach-append : (widths others : List ℕ) → reach (widths ++ others) ≡ reach widths + reach others
reach-append [] others = omega arith
reach-append (width ∷ widths) others = let rest = reach-append widths others in omega (arith, rest)

system_most : (prov : Bool) → system_width prov ≤ 3
system_most true = omega arith
system_most false = omega arith

sum_most : (widths : List ℕ) → sum widths ≤ reach widths
sum_most [] = omega arith
sum_most (width ∷ widths) = let first = sum_by-cons (λ (n : ℕ). n) width widths in let rest = sum_most widths in omega (arith, first, rest)

-- and three columns more
abbrev pub IsNarrow : List ℕ → Type 0
IsNarrow widths = 3 + reach widths ≤ 0xffff_ffff

-- ---- monomials

one_range : IsMonomial m.one
one_range = record { sorted = refl; powers = tt }

once_range : (token : Token) → IsToken token → IsMonomial (m.once token)
once_range token is = record { sorted = refl; powers = ((is, (omega arith, omega arith)), tt) }

-- ---- columns

columns_range : (at width : ℕ) → at + width ≤ 0xffff_ffff → AllByRecursion ExprInRange (columns_behind at width)
columns_range at zero few = tt
columns_range at (suc more) few = (omega (arith, few), columns_range (suc at) more (omega (arith, few)))

noted_range : {X : Type 0} (P : X → Type 0) (prov : Bool) (x : X) → P x → AllByRecursion P (noted prov x)
noted_range P true x so = (so, tt)
noted_range P false x so = tt

module _ (prov : Bool) where
  users_range : (at : ℕ) (widths : List ℕ) → at + reach widths ≤ 0xffff_ffff → AllByRecursion ExprInRange (users_from prov at widths)
  users_range at [] few = tt
  users_range at (width ∷ widths) few =
      let most = system_most prov in
      each_append ExprInRange (columns_behind at width) (users_from prov (at + (width + system_width prov)) widths) (columns_range at width (omega (arith, few)))
      (users_range (at + (width + system_width prov)) widths (omega (arith, few, most)))

  identities_range : (at : ℕ) (widths : List ℕ) → at + reach widths ≤ 0xffff_ffff → PartsInRange (identities_from prov at widths)
  identities_range at [] few = tt
  identities_range at (width ∷ widths) few =
      let most = system_most prov in (omega (arith, few), identities_range (at + (width + system_width prov)) widths (omega (arith, few, most)))

  times_range : (at : ℕ) (widths : List ℕ) (expr : Expr) → at + reach widths ≤ 0xffff_ffff → ExprInRange expr → ExprInRange (times_from prov at widths expr)
  times_range at [] expr few so = so
  times_range at (width ∷ widths) expr few so =
      let most = system_most prov in
      times_range (at + (width + system_width prov)) widths (e.times expr (e.col (suc (suc (suc (at + width)))))) (omega (arith, few, most)) (so, omega (arith, few))

  monomials_range : (widths : List ℕ) → IsNarrow widths → ExprInRange (product_of prov widths)
  monomials_range [] few = one_range
  monomials_range (width ∷ widths) few =
      let most = system_most prov in times_range (width + system_width prov) widths (e.col (suc (suc (suc width)))) (omega (arith, few, most)) (omega (arith, few))

  abbrev ChangeInRange : Option Change → Type 0
  ChangeInRange None = Unit {0}
  ChangeInRange (Some change) = CondIsFree change.cond × IsToken change.token

  module _ (widths : List ℕ) (narrow : IsNarrow widths) where
    users : AllByRecursion ExprInRange (users_from prov 0 widths)
    users = users_range 0 widths (omega (arith, narrow))

    free_range : (exprs : List Expr) → AllByRecursion IsFree exprs → AllByRecursion ExprInRange (substituted_each exprs (users_from prov 0 widths))
    free_range [] so = tt
    free_range (x ∷ exprs) so = (so.0 (users_from prov 0 widths) users, free_range exprs so.1)

    identity_range : suc (sum widths) ≤ 0xffff_ffff
    identity_range = let most = sum_most widths in omega (arith, narrow, most)

    mark_range : suc (suc (sum widths)) ≤ 0xffff_ffff
    mark_range = let most = sum_most widths in omega (arith, narrow, most)

    monomial_range : suc (suc (suc (sum widths))) ≤ 0xffff_ffff
    monomial_range = let most = sum_most widths in omega (arith, narrow, most)

    changed_range : (exprs : List Expr) (change : Option Change) → AllByRecursion IsFree exprs → ChangeInRange change → AllByRecursion ExprInRange (changed_columns prov widths exprs change)
    changed_range exprs None so change =
        each_append ExprInRange (substituted_each exprs (users_from prov 0 widths)) _ (free_range exprs so)
        (identity_range, (mark_range, noted_range ExprInRange prov _ monomial_range))
    changed_range exprs (Some change) so range =
        let test = range.0 (users_from prov 0 widths) users in
        each_append ExprInRange (substituted_each exprs (users_from prov 0 widths)) _ (free_range exprs so)
        (identity_range, ((test, (tt, mark_range)), noted_range ExprInRange prov _ (test, ((monomial_range, once_range change.token range.1), monomial_range))))

    new_range : (t k b : ℕ) (exprs : List Expr) → IsU32 t → IsU32 k → IsU32 b → AllByRecursion IsFree exprs → AllByRecursion ExprInRange (new_columns prov t k b widths exprs)
    new_range t k b exprs tt' kk bb so =
        let near : 0 + reach widths ≤ 0xffff_ffff = omega (arith, narrow) in
        each_append ExprInRange (substituted_each exprs (users_from prov 0 widths)) _ (free_range exprs so) (
          ((tt', (kk, bb)), identities_range 0 widths near),
          (
            tt,
            noted_range ExprInRange prov _
                (times_range 0 widths (e.constant (cell.Mono (m.once (Queried t k)))) near (once_range (Queried t k) (tt', kk))),
          ),
        )

    answer_range : (exprs : List Expr) → AllByRecursion IsFree exprs → AllByRecursion ExprInRange (answer_columns prov widths exprs)
    answer_range exprs so =
        each_append ExprInRange (substituted_each exprs (users_from prov 0 widths)) (noted prov (product_of prov widths)) (free_range exprs so)
        (noted_range ExprInRange prov (product_of prov widths) (monomials_range widths narrow))

  -- ---- the rows of a VALUES list

  cells_behind : (cells others : List Cell) → AreInRange cells → AreInRange others → AreInRange (cells ++ others)
  cells_behind [] others first second = second
  cells_behind (x ∷ cells) others first second = (first.0, cells_behind cells others first.1 second)

  noted_cell : (prov : Bool) (x : Cell) → IsInRange x → AreInRange (noted prov x)
  noted_cell true x so = (so, tt)
  noted_cell false x so = tt

  given_range : (t k n : ℕ) (rows : List (List Cell)) → IsU32 t → IsU32 k → n + length rows ≤ 0x1_0000_0000 → AllByRecursion AreInRange rows
      → AllByRecursion AreInRange (map (encoded_row prov) (given_from monomials t k n rows))
  given_range t k n [] tt' kk few so = tt
  given_range t k n (row ∷ rows) tt' kk few so =
      let nn : IsU32 n = omega (arith, few) in (
        cells_behind row _ so.0 ((tt', (kk, (nn, (omega arith, tt)))), (tt, noted_cell prov _ (once_range (Inserted t k n) (tt', (kk, nn))))),
        given_range t k (suc n) rows tt' kk (omega (arith, few)) so.1,
      )

-- ---- queries

module _ (columns of_step : ℕ → ℕ) (prov : Bool) where
  abbrev pub widths : Query → List ℕ
  widths query = widths_of columns of_step prov query

  -- the numbers of an annotated query, and of what is made of it
  abbrev pub AnnotatedInRange : Query → Type 0
  AnnotatedInRange (q.scan table version) = IsU32 version
  AnnotatedInRange (q.step j) = IsU32 j
  AnnotatedInRange (q.select query c) = AnnotatedInRange query × (IsNarrow (widths query) × CondIsFree c)
  AnnotatedInRange (q.project query exprs change) = AnnotatedInRange query × (IsNarrow (widths query) × (AllByRecursion IsFree exprs × ChangeInRange prov change))
  AnnotatedInRange (q.product left right) = AnnotatedInRange left × AnnotatedInRange right
  AnnotatedInRange (q.union left right) = AnnotatedInRange left × AnnotatedInRange right
  AnnotatedInRange (q.given t k rows) = (IsU32 t × IsU32 k) × ((1 + length rows ≤ 0x1_0000_0000) × AllByRecursion AreInRange rows)
  AnnotatedInRange (q.new_rows t k b query) = (IsU32 t × (IsU32 k × IsU32 b)) × AnnotatedInRange query
  AnnotatedInRange (q.publish base mine later) = IsNarrow (widths base) × (AnnotatedInRange base × (AnnotatedInRange mine × AnnotatedInRange later))

  abbrev pub AnnotatedStepInRange : QueryStep → Type 0
  AnnotatedStepInRange step = IsU32 step.j × AnnotatedInRange step.query

  plain_range : (query : Query) → AnnotatedInRange query → QueryInRange (plain_query columns of_step prov query)
  plain_range (q.scan table version) so = so
  plain_range (q.step j) so = so
  plain_range (q.select query c) so = (plain_range query so.0, so.1.1 (users_from prov 0 (widths query)) (users prov (widths query) so.1.0))
  plain_range (q.project query exprs change) so = (plain_range query so.0, changed_range prov (widths query) so.1.0 exprs change so.1.1.0 so.1.1.1)
  plain_range (q.product left right) so = (plain_range left so.0, plain_range right so.1)
  plain_range (q.union left right) so = (plain_range left so.0, plain_range right so.1)
  plain_range (q.given t k rows) so = given_range prov t k 1 rows so.0.0 so.0.1 so.1.0 so.1.1
  plain_range (q.new_rows t k b (q.project query exprs change)) so =
      (plain_range query so.1.0, new_range prov (widths query) so.1.1.0 t k b exprs so.0.0 so.0.1.0 so.0.1.1 so.1.1.1.0)
  plain_range (q.new_rows t k b query) so = plain_range query so.1
  plain_range (q.publish base mine later) so =
      (identity_range prov (widths base) so.0, (plain_range base so.1.0, (plain_range mine so.1.1.0, plain_range later so.1.1.1)))

  last_range : (query : Query) → AnnotatedInRange query → QueryInRange (plain_last columns of_step prov query)
  last_range (q.project query exprs None) so = (plain_range query so.0, answer_range prov (widths query) so.1.0 exprs so.1.1.0)
  last_range (q.union left right) so = (last_range left so.0, last_range right so.1)
  last_range query so = plain_range query so

  steps_range : (steps : List QueryStep) → AllByRecursion AnnotatedStepInRange steps → AllByRecursion StepInRange (map (plain_step columns of_step prov) steps)
  steps_range [] so = tt
  steps_range (s ∷ steps) so = ((so.0.0, plain_range s.query so.0.1), steps_range steps so.1)

pub program_range : (columns : ℕ → ℕ) (prov : Bool) (program : Program) → AllByRecursion (AnnotatedStepInRange columns (step_table program.steps) prov) program.steps
    → AnnotatedInRange columns (step_table program.steps) prov program.last → ProgramInRange (plain_program columns prov program)
program_range columns prov program steps last = record {
  steps = steps_range columns (step_table program.steps) prov program.steps steps;
  last = last_range columns (step_table program.steps) prov program.last last;
}
