-- Of the contract of `to_plain` and of the law `plain_programs_mean_the_annotated`: a program of the annotated algebra as one of the plain algebra, which
-- carries identities, marks and monomials in columns of its own. Where a query's expressions read user columns, they read them where they stand between those.
use Rattle.std.specs.Prelude.{ℕ, suc, ◌+◌, Bool, true, false, List, [], ◌∷◌, ◌++◌, length, map, sum, Option, Some, None}
use Rattle.gp_base.specs.declared.cell.Cell.TheVariants as cell
use Rattle.gp_base.specs.declared.token.Token.TheVariants.{Queried}
use Rattle.gp_base.specs.Annotated.{monomials}
use Rattle.gp_base.specs.Tokens as m
use Rattle.gp_expr.specs.Expressions as e
use Rattle.gp_expr.specs.Expressions.{Expr, Cond, Parts}
use Rattle.gp_expr.specs.Substitution.{substituted_each, substituted_cond}
use Rattle.gp_algebra.specs.Effects.{given_from}
use Rattle.gp_algebra.specs.Statements.{columns_behind}
use Rattle.gp_algebra.specs.Plain as p
use Rattle.gp_algebra.specs.Plain.{Plain, PlainStep, PlainProgram}
use Rattle.gp_algebra.specs.AnnotatedQueries as q
use Rattle.gp_algebra.specs.AnnotatedQueries.{Change, Query, QueryStep, Program, step_table}
use Rattle.gp_prov.specs.Encoding.{noted, encoded_row}

-- ---- columns of joined rows, whose parts have so many user columns each

-- how many columns a part has behind its user columns
abbrev pub system_width : Bool → ℕ
system_width true = 3
system_width false = 2

abbrev pub users_from : Bool → ℕ → List ℕ → List Expr
users_from prov at [] = []
users_from prov at (width ∷ widths) = columns_behind at width ++ users_from prov (at + (width + system_width prov)) widths

abbrev pub identities_from : Bool → ℕ → List ℕ → Parts
identities_from prov at [] = e.no_parts
identities_from prov at (width ∷ widths) = e.part (e.col (suc (at + width))) (identities_from prov (at + (width + system_width prov)) widths)

-- an expression times the monomial of each part in turn
abbrev pub times_from : Bool → ℕ → List ℕ → Expr → Expr
times_from prov at [] expr = expr
times_from prov at (width ∷ widths) expr = times_from prov (at + (width + system_width prov)) widths (e.times expr (e.col (suc (suc (suc (at + width))))))

-- the product of the monomials of the parts
abbrev pub product_of : Bool → List ℕ → Expr
product_of prov [] = e.constant (cell.Mono m.one)
product_of prov (width ∷ widths) = times_from prov (width + system_width prov) widths (e.col (suc (suc (suc width))))

-- ---- projections

-- the new rows of a table; a change marks them, and multiplies their monomials, where its condition is true
abbrev pub changed_columns : Bool → List ℕ → List Expr → Option Change → List Expr
changed_columns prov widths exprs None =
    substituted_each exprs (users_from prov 0 widths)
    ++ (e.col (suc (sum widths)) ∷ e.col (suc (suc (sum widths))) ∷ noted prov (e.col (suc (suc (suc (sum widths))))))
changed_columns prov widths exprs (Some change) =
    let test : Cond = substituted_cond change.cond (users_from prov 0 widths) in
    let mark : Expr = e.col (suc (suc (sum widths))) in
    let monomial : Expr = e.col (suc (suc (suc (sum widths)))) in
    substituted_each exprs (users_from prov 0 widths)
    ++ (e.col (suc (sum widths)) ∷ e.case test (e.constant (cell.Mark true)) mark
    ∷ noted prov (e.case test (e.times monomial (e.constant (cell.Mono (m.once change.token)))) monomial))

-- the rows that branch b of an INSERT makes, statement k of transaction t
abbrev pub new_columns : Bool → ℕ → ℕ → ℕ → List ℕ → List Expr → List Expr
new_columns prov t k b widths exprs =
    substituted_each exprs (users_from prov 0 widths)
    ++ (e.new_id t k b (identities_from prov 0 widths) ∷ e.constant (cell.Mark true)
    ∷ noted prov (times_from prov 0 widths (e.constant (cell.Mono (m.once (Queried t k))))))

-- the rows of an answer, which show neither identity nor mark
abbrev pub answer_columns : Bool → List ℕ → List Expr → List Expr
answer_columns prov widths exprs = substituted_each exprs (users_from prov 0 widths) ++ noted prov (product_of prov widths)

-- ---- queries, given the number of columns of each table and the table of each step

module _ (columns : ℕ → ℕ) (of_step : ℕ → ℕ) (prov : Bool) where
  -- the number of user columns of each part of the rows of a query
  abbrev pub widths_of : Query → List ℕ
  widths_of (q.scan table version) = columns table ∷ []
  widths_of (q.step j) = columns (of_step j) ∷ []
  widths_of (q.select query c) = widths_of query
  widths_of (q.project query exprs change) = length exprs ∷ []
  widths_of (q.product left right) = widths_of left ++ widths_of right
  widths_of (q.union left right) = widths_of left
  widths_of (q.given t k rows) = []
  widths_of (q.new_rows t k b query) = widths_of query
  widths_of (q.publish base mine later) = widths_of base

  -- a query with its system columns
  abbrev pub plain_query : Query → Plain
  plain_query (q.scan table version) = p.scan table version
  plain_query (q.step j) = p.step j
  plain_query (q.select query c) = p.select (plain_query query) (substituted_cond c (users_from prov 0 (widths_of query)))
  plain_query (q.project query exprs change) = p.project (plain_query query) (changed_columns prov (widths_of query) exprs change)
  plain_query (q.product left right) = p.product (plain_query left) (plain_query right)
  plain_query (q.union left right) = p.union (plain_query left) (plain_query right)
  plain_query (q.given t k rows) = p.given (map (encoded_row prov) (given_from monomials t k 1 rows))
  plain_query (q.new_rows t k b (q.project query exprs change)) = p.project (plain_query query) (new_columns prov t k b (widths_of query) exprs)
  plain_query (q.new_rows t k b query) = plain_query query
  plain_query (q.publish base mine later) = p.publish (suc (sum (widths_of base))) (plain_query base) (plain_query mine) (plain_query later)

  -- the last query: the branches of an answer, or the contents of a table, which keep their system columns
  abbrev pub plain_last : Query → Plain
  plain_last (q.project query exprs None) = p.project (plain_query query) (answer_columns prov (widths_of query) exprs)
  plain_last (q.union left right) = p.union (plain_last left) (plain_last right)
  plain_last query = plain_query query

-- ---- programs

abbrev pub plain_step : (ℕ → ℕ) → (ℕ → ℕ) → Bool → QueryStep → PlainStep
plain_step columns of_step prov step = record { j = step.j; table = step.table; query = plain_query columns of_step prov step.query }

abbrev pub plain_program : (ℕ → ℕ) → Bool → Program → PlainProgram
plain_program columns prov program = record {
  steps = map (plain_step columns (step_table program.steps) prov) program.steps;
  last = plain_last columns (step_table program.steps) prov program.last;
}
