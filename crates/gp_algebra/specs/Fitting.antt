-- Of the contracts of `check` and `check_query` (gp_check): when a statement or a query fits the tables of a catalogue.
use Rattle.std.specs.Prelude.{ℕ, ◌+◌, ◌^◌, nat_le, nat_lt, ◌==◌, Bool, true, ◌&&◌, List, [], ◌∷◌, length, Option, Some, None}
use Rattle.std.specs.List.{list_all}
use Rattle.gp_base.specs.declared.cell.Cell.{Cell}
use Rattle.gp_base.specs.declared.table.Table.{Table}
use Rattle.gp_base.specs.UserCells.{is_user_cell}
use Rattle.gp_expr.specs.Expressions.{Expr, Cond}
use Rattle.gp_expr.specs.ExpressionForms.{is_simple, cond_is_simple, all_leaves, cond_all_leaves}
use Rattle.gp_algebra.specs.Statements.{SetExpr, Branch, Select, Statement, insert, insert_select, update, delete, read, width_of}

-- one or more, and few enough to be numbered by 32 bits
abbrev pub is_countable : {A : Type 0} → List A → Bool
is_countable list = nat_lt 0 (length list) && nat_lt (length list) (2 ^ 32)

-- the number of columns of some tables side by side
abbrev pub joined_width : List Table → List ℕ → ℕ
joined_width tables [] = 0
joined_width tables (place ∷ places) = width_of tables place + joined_width tables places

abbrev pub is_there : List Table → ℕ → Bool
is_there tables place = nat_lt place (length tables)

-- a column of a row of this width; columns count from 1
abbrev pub is_column : ℕ → ℕ → Bool
is_column width n = nat_le 1 n && nat_le n width

-- the expression is simple, its columns are there, and its constants are cells that a user can write
abbrev pub expr_fits : ℕ → Expr → Bool
expr_fits width e = is_simple e && all_leaves (is_column width) is_user_cell e

abbrev pub cond_fits : ℕ → Cond → Bool
cond_fits width c = cond_is_simple c && cond_all_leaves (is_column width) is_user_cell c

abbrev pub optional_cond_fits : ℕ → Option Cond → Bool
optional_cond_fits width None = true
optional_cond_fits width (Some c) = cond_fits width c

-- a row for a table of this width
abbrev pub row_fits : ℕ → List Cell → Bool
row_fits width row = (length row == width) && list_all is_user_cell row

-- a branch that gives rows of this width: it has a table and an item, and both are there
abbrev pub branch_fits : List Table → ℕ → Branch → Bool
branch_fits tables width branch = nat_lt 0 (length branch.from)
    && (list_all (is_there tables) branch.from
    && (nat_lt 0 (length branch.items)
    && ((length branch.items == width)
    && (list_all (expr_fits (joined_width tables branch.from)) branch.items
    && optional_cond_fits (joined_width tables branch.from) branch.cond))))

-- a query that gives rows of this width
abbrev pub branches_fit : List Table → ℕ → Select → Bool
branches_fit tables width select = is_countable select && list_all (branch_fits tables width) select

-- the number of columns that a query gives: that of its first branch
abbrev pub select_width : Select → ℕ
select_width [] = 0
select_width (branch ∷ branches) = length branch.items

abbrev pub set_fits : ℕ → SetExpr → Bool
set_fits width set = is_column width set.col && expr_fits width set.expr

abbrev pub select_fits : List Table → Select → Bool
select_fits tables select = branches_fit tables (select_width select) select

abbrev pub statement_fits : List Table → Statement → Bool
statement_fits tables (insert table rows) = is_there tables table && (is_countable rows && list_all (row_fits (width_of tables table)) rows)
statement_fits tables (insert_select table select) = is_there tables table && branches_fit tables (width_of tables table) select
statement_fits tables (update table sets cond) =
    is_there tables table && (list_all (set_fits (width_of tables table)) sets && cond_fits (width_of tables table) cond)
statement_fits tables (delete table cond) = is_there tables table && cond_fits (width_of tables table) cond
statement_fits tables (read select) = select_fits tables select
