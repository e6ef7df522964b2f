-- Part of the statement: the plain algebra, as data, and its meaning. A program is a list of numbered steps and a last query. Rows are lists of cells: the
-- user columns of a table, then system columns with a row's identity, its mark and, with provenance, its monomial.
use Rattle.std.specs.Prelude.{ℕ, suc, ◌==◌, ◌&&◌, ◌||◌, not, Bool, false, List, [], ◌∷◌, ◌++◌, map, filter, if◌then◌else◌}
use Rattle.std.specs.List.{list_any, flat_map}
use Rattle.gp_base.specs.declared.cell.Cell.{Cell}
use Rattle.gp_base.specs.declared.cell.Cell.TheVariants as cell
use Rattle.gp_base.specs.Identities.{same_identity}
use Rattle.gp_expr.specs.Expressions.{Expr, Cond}
use Rattle.gp_expr.specs.Values.{column, passes}
use Rattle.gp_algebra.specs.Answers.{values}

-- a query; tables are numbered by their places in the catalogue, from 0, and versions from 0
pub data Plain : Type 0 where
  scan : ℕ → ℕ → Plain
  step : ℕ → Plain
  select : Plain → Cond → Plain
  project : Plain → List Expr → Plain
  product : Plain → Plain → Plain
  union : Plain → Plain → Plain
  given : List (List Cell) → Plain
  publish : ℕ → Plain → Plain → Plain → Plain

-- a step: the contents of a table after statement j
pub record PlainStep : Type 0 where
  pub j : ℕ
  pub table : ℕ
  pub query : Plain

pub record PlainProgram : Type 0 where
  pub steps : List PlainStep
  pub last : Plain

-- the rows of each table in each version: version, then table
abbrev pub PlainEnvironment : Type 0
PlainEnvironment = ℕ → ℕ → List (List Cell)

-- the rows that each step has given, of the plain algebra
abbrev pub StepRows : Type 0
StepRows = ℕ → List (List Cell)

-- rows of either algebra
abbrev pub no_steps : {R : Type 0} → ℕ → List R
no_steps j = []

abbrev pub with_step : {R : Type 0} → ℕ → List R → (ℕ → List R) → ℕ → List R
with_step place rows steps j = if j == place then rows else steps j

-- ---- PUBLISH: what a transaction writes, onto a later version

-- two cells with one identity
abbrev pub is_same_id : Cell → Cell → Bool
is_same_id (cell.Id id) (cell.Id other) = same_identity id other
is_same_id _ _ = false

abbrev pub is_marked : Cell → Bool
is_marked (cell.Mark mark) = mark
is_marked _ = false

-- a row has this identity in the column
abbrev pub has_id : ℕ → Cell → List (List Cell) → Bool
has_id at id rows = list_any (λ row. is_same_id (column at row) id) rows

-- an identity is written where a marked row of mine has it, or where base has it and mine has not
abbrev pub is_written : ℕ → List (List Cell) → List (List Cell) → Cell → Bool
is_written at base mine id =
    list_any (λ row. is_marked (column (suc at) row) && is_same_id (column at row) id) mine || (has_id at id base && not (has_id at id mine))

-- later without the identities that are written, then the marked rows of mine; the mark's column follows that of the identity
abbrev pub published_onto : ℕ → List (List Cell) → List (List Cell) → List (List Cell) → List (List Cell)
published_onto at base mine later =
    filter (λ row. not (is_written at base mine (column at row))) later ++ filter (λ row. is_marked (column (suc at) row)) mine

-- ---- the meaning

-- the rows of a query, in the order of nested loops
abbrev pub meaning : StepRows → PlainEnvironment → Plain → List (List Cell)
meaning steps env (scan table version) = env version table
meaning steps env (step j) = steps j
meaning steps env (select query c) = filter (passes c) (meaning steps env query)
meaning steps env (project query exprs) = map (values exprs) (meaning steps env query)
meaning steps env (product left right) = flat_map (λ row. map (λ other. row ++ other) (meaning steps env right)) (meaning steps env left)
meaning steps env (union left right) = meaning steps env left ++ meaning steps env right
meaning steps env (given rows) = rows
meaning steps env (publish at base mine later) = published_onto at (meaning steps env base) (meaning steps env mine) (meaning steps env later)

-- the rows of each step after all of these were taken in turn
abbrev pub steps_meaning : PlainEnvironment → List PlainStep → StepRows → StepRows
steps_meaning env [] steps = steps
steps_meaning env (first ∷ others) steps = steps_meaning env others (with_step first.j (meaning steps env first.query) steps)

-- the rows of a program
abbrev pub program_meaning : PlainEnvironment → PlainProgram → List (List Cell)
program_meaning env program = meaning (steps_meaning env program.steps no_steps) env program.last
