-- Part of the statement: what a statement does to an annotated database, which rows it writes, and its limits. An inserted row gets a new identity,
-- an updated one keeps its own; each written row is marked, and its annotation is multiplied by a token of the statement.
use Rattle.std.specs.Prelude.{ℕ, zero, suc, ◌==◌, nat_lt, not, Bool, true, false, List, [], ◌∷◌, ◌++◌, length, map, filter, Option, Some, None, unwrap_or, if◌then◌else◌}
use Rattle.std.specs.List.{list_any}
use Rattle.gp_base.specs.declared.cell.Cell.{Cell}
use Rattle.gp_base.specs.declared.token.Token.TheVariants.{Inserted, Queried, Updated}
use Rattle.gp_base.specs.Identities.{Identity, identity, no_sources, nodes}
use Rattle.gp_base.specs.Annotated.{Annotations, Annotated, Database}
use Rattle.gp_expr.specs.Expressions.{Expr, Cond, col}
use Rattle.gp_expr.specs.Values.{passes}
use Rattle.gp_algebra.specs.Statements.{SetExpr, Statement, insert, insert_select, update, delete, read}
use Rattle.gp_algebra.specs.Answers.{Element, answer, values}

-- the database with these rows in one table
abbrev pub with_rows : {M : Type 0} → ℕ → List (Annotated M) → Database M → Database M
with_rows place rows db table = if table == place then rows else db table

-- ---- UPDATE

-- the expression that a column is set to, if it is
abbrev pub set_for : ℕ → List SetExpr → Option Expr
set_for n [] = None
set_for n (set ∷ sets) = if set.col == n then Some set.expr else set_for n sets

-- the expressions of the next columns of the new row, this many: a column that is not set keeps its value
abbrev pub assigned_from : List SetExpr → ℕ → ℕ → List Expr
assigned_from sets n zero = []
assigned_from sets n (suc more) = unwrap_or (set_for (suc n) sets) (col (suc n)) ∷ assigned_from sets (suc n) more

-- the new row: every expression reads the old one
abbrev pub assigned : List SetExpr → List Cell → List Cell
assigned sets row = values (assigned_from sets 0 (length row)) row

-- ---- what a statement does

module _ {M : Type 0} (domain : Annotations M) where
  -- the rows that a VALUES list inserts, the first of which has this number
  abbrev pub given_from : ℕ → ℕ → ℕ → List (List Cell) → List (Annotated M)
  given_from t k n [] = []
  given_from t k n (cells ∷ rows) =
      record { identity = identity t k n no_sources; cells = cells; mark = true; annotation = domain.token (Inserted t k n) } ∷ given_from t k (suc n) rows

  -- the row that is inserted for an element of an answer
  abbrev pub made : ℕ → ℕ → Element M → Annotated M
  made t k element = record {
    identity = identity t k element.branch element.sources;
    cells = element.cells;
    mark = true;
    annotation = domain.times (domain.token (Queried t k)) element.annotation;
  }

  -- the row after an UPDATE
  abbrev pub changed : ℕ → ℕ → List SetExpr → Cond → Annotated M → Annotated M
  changed t k sets c row =
      if passes c row.cells then record { identity = row.identity; cells = assigned sets row.cells; mark = true; annotation = domain.times row.annotation (domain.token (Updated t k)) } else row

  -- the database after statement k of transaction t; a query reads the database as it was before
  abbrev pub step : ℕ → ℕ → Statement → Database M → Database M
  step t k (insert table rows) db = with_rows table (db table ++ given_from t k 1 rows) db
  step t k (insert_select table select) db = with_rows table (db table ++ map (made t k) (answer domain select db)) db
  step t k (update table sets c) db = with_rows table (map (changed t k sets c) (db table)) db
  step t k (delete table c) db = with_rows table (filter (λ row. not (passes c row.cells)) (db table)) db
  step t k (read select) db = db

-- ---- what a statement writes

-- a row that was written: its table and its identity
pub record Written : Type 0 where
  pub table : ℕ
  pub identity : Identity

abbrev pub written_in : {M : Type 0} → ℕ → List (Annotated M) → List Written
written_in table rows = map (λ row. record { table = table; identity = row.identity }) rows

module _ {M : Type 0} (domain : Annotations M) where
  -- the rows that it inserts, updates or deletes
  abbrev pub wrote : ℕ → ℕ → Statement → Database M → List Written
  wrote t k (insert table rows) db = written_in table (given_from domain t k 1 rows)
  wrote t k (insert_select table select) db = written_in table (map (made domain t k) (answer domain select db))
  wrote t k (update table sets c) db = written_in table (filter (λ row. passes c row.cells) (db table))
  wrote t k (delete table c) db = written_in table (filter (λ row. passes c row.cells) (db table))
  wrote t k (read select) db = []

  -- an INSERT that leaves more rows than these in its table
  abbrev pub is_over_rows : ℕ → ℕ → ℕ → Statement → Database M → Bool
  is_over_rows most t k (insert table rows) db = nat_lt most (length (step domain t k (insert table rows) db table))
  is_over_rows most t k (insert_select table select) db = nat_lt most (length (step domain t k (insert_select table select) db table))
  is_over_rows most t k _ db = false

  -- an INSERT that makes an identity of more nodes than these
  abbrev pub is_over_nodes : ℕ → ℕ → ℕ → Statement → Database M → Bool
  is_over_nodes most t k (insert table rows) db = list_any (λ (row : Annotated M). nat_lt most (nodes row.identity)) (given_from domain t k 1 rows)
  is_over_nodes most t k (insert_select table select) db = list_any (λ (row : Annotated M). nat_lt most (nodes row.identity)) (map (made domain t k) (answer domain select db))
  is_over_nodes most t k _ db = false
