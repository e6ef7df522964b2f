-- Part of the statement: statements and queries, as data, their targets, and the widths of tables. The types of the code are these with boxes in their
-- expressions.
use Rattle.std.specs.Prelude.{ℕ, zero, suc, List, [], ◌∷◌, Option, None, Some, length, slice_get}
use Rattle.gp_base.specs.declared.cell.Cell.{Cell}
use Rattle.gp_expr.specs.Expressions as e
use Rattle.gp_expr.specs.Expressions.{Expr, Cond}
use Rattle.std.specs.Option.{option_map_or}
use Rattle.gp_base.specs.declared.table.Table.{Table}

-- an assignment to a column, which count from 1
pub record SetExpr : Type 0 where
  pub col : ℕ
  pub expr : Expr

-- one SELECT: its tables, its condition, and the values of the row that it gives
pub record Branch : Type 0 where
  pub from : List ℕ
  pub cond : Option Cond
  pub items : List Expr

-- branches with UNION ALL between them
abbrev pub Select : Type 0
Select = List Branch

-- tables are numbered by their places in the catalogue, from 0
pub data Statement : Type 0 where
  insert : ℕ → List (List Cell) → Statement
  insert_select : ℕ → Select → Statement
  update : ℕ → List SetExpr → Cond → Statement
  delete : ℕ → Cond → Statement
  read : Select → Statement

-- the table that a statement writes; a query writes none
abbrev pub target : Statement → Option ℕ
target (insert table rows) = Some table
target (insert_select table select) = Some table
target (update table sets c) = Some table
target (delete table c) = Some table
target (read select) = None

-- the number of columns of a table, or 0 if it is not there
abbrev pub width_of : List Table → ℕ → ℕ
width_of tables place = option_map_or (λ (table : Table). length table.cols) (slice_get tables place) 0

-- as many columns, behind this many others
abbrev pub columns_behind : ℕ → ℕ → List Expr
columns_behind before zero = []
columns_behind before (suc count) = e.col (suc before) ∷ columns_behind (suc before) count
