-- Of the contract of `program` (gp_compose) and of the laws on annotated programs: the annotated algebra, as data. A rewritten statement is such a query, so
-- its rows carry the identities, marks and annotations that the statement gives them (Arab and others, Reenactment for Read-Committed Snapshot Isolation, 2016,
-- in whose multi-version semirings an update is a projection and an insert a union).
use Rattle.std.specs.Prelude.{ℕ, List, [], ◌∷◌, Option, if◌then◌else◌, ◌==◌}
use Rattle.gp_base.specs.declared.cell.Cell.{Cell}
use Rattle.gp_base.specs.declared.token.Token.{Token}
use Rattle.gp_expr.specs.Expressions.{Expr, Cond}

-- what an UPDATE does beside new cells: a row for which the condition is true on its old cells is marked, and multiplied by the token
pub record Change : Type 0 where
  pub cond : Cond
  pub token : Token

-- a query; tables are numbered by their places in the catalogue, from 0, and versions from 0
pub data Query : Type 0 where
  scan : ℕ → ℕ → Query
  step : ℕ → Query
  select : Query → Cond → Query
  project : Query → List Expr → Option Change → Query
  product : Query → Query → Query
  union : Query → Query → Query
  -- the rows of a VALUES list of statement k of transaction t
  given : ℕ → ℕ → List (List Cell) → Query
  -- the rows that branch b of an INSERT makes, statement k of transaction t
  new_rows : ℕ → ℕ → ℕ → Query → Query
  -- a transaction's rows onto a later version: those that it read, its own at the end, and those of the later version
  publish : Query → Query → Query → Query

-- a step: the contents of a table after statement j
pub record QueryStep : Type 0 where
  pub j : ℕ
  pub table : ℕ
  pub query : Query

pub record Program : Type 0 where
  pub steps : List QueryStep
  pub last : Query

-- the table of the step with this number
abbrev pub step_table : List QueryStep → ℕ → ℕ
step_table [] j = 0
step_table (first ∷ others) j = if first.j == j then first.table else step_table others j
