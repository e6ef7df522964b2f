-- Of the laws of this crate: statements and queries whose expressions have types over the columns of their tables, as the check of names and types leaves
-- them. Such values can stand in the columns that they are written to, and the branches of a query give columns of the same types.
use Rattle.std.specs.Prelude.{ℕ, Bool, true, false, ◌&&◌, List, [], ◌∷◌, ◌++◌, Option, None, is_some, slice_get, if◌then◌else◌}
use Rattle.std.specs.List.{fold, list_all}
use Rattle.std.specs.Option.{option_map_or}
use Rattle.gp_base.specs.declared.cell.Cell.{Cell}
use Rattle.gp_base.specs.declared.table.Table.{Table}
use Rattle.gp_expr.specs.Expressions.{Cond}
use Rattle.gp_algebra.specs.Statements.{SetExpr, Branch, Select, Statement, insert, insert_select, update, delete, read}
use Rattle.gp_machine.specs.Entries.{Entry, Ran}
use Rattle.gp_sql.specs.declared.cell_type.CellType.{CellType}
use Rattle.gp_sql.specs.declared.cell_type.CellType.TheVariants.{Null, Int, Text, Id, Mark}
use Rattle.gp_sql.specs.CellTypes.{column_types}
use Rattle.gp_sql.specs.Types.{both_types, cond_is_typed, expr_type, exprs_types, row_types, type_at}

-- the types of the columns of a table; it has none where it is not there
abbrev pub table_types : List Table → ℕ → List CellType
table_types tables place = option_map_or column_types (slice_get tables place) []

-- those of tables side by side
abbrev pub joined_types : List Table → List ℕ → List CellType
joined_types tables [] = []
joined_types tables (place ∷ places) = table_types tables place ++ joined_types tables places

-- ---- values for columns

-- a value of this type can stand in a column of the first one
abbrev pub is_into : CellType → CellType → Bool
is_into column Null = true
is_into Int Int = true
is_into Text Text = true
is_into Id Id = true
is_into Mark Mark = true
is_into column type = false

abbrev pub are_into : List CellType → List CellType → Bool
are_into [] [] = true
are_into (column ∷ columns) (type ∷ types) = is_into column type && are_into columns types
are_into columns types = false

-- rows have types, and can stand in the columns
abbrev pub fill : List CellType → Option (List CellType) → Bool
fill columns types = option_map_or (are_into columns) types false

-- ---- queries

abbrev pub optional_cond_is_typed : List CellType → Option Cond → Bool
optional_cond_is_typed types cond = option_map_or (cond_is_typed types) cond true

-- the types of the rows that a branch gives
abbrev pub branch_types : List Table → Branch → Option (List CellType)
branch_types tables branch =
    if optional_cond_is_typed (joined_types tables branch.from) branch.cond then exprs_types (joined_types tables branch.from) branch.items else None

-- the types of the rows of all branches
abbrev pub select_types : List Table → Select → Option (List CellType)
select_types tables [] = None
select_types tables (branch ∷ others) = fold (λ types other. both_types types (branch_types tables other)) (branch_types tables branch) others

abbrev pub select_is_typed : List Table → Select → Bool
select_is_typed tables select = is_some (select_types tables select)

-- ---- statements

-- the value that is set can stand in its column
abbrev pub set_is_typed : List CellType → SetExpr → Bool
set_is_typed types set = option_map_or (λ column. option_map_or (is_into column) (expr_type types set.expr) false) (type_at set.col types) false

abbrev pub statement_is_typed : List Table → Statement → Bool
statement_is_typed tables (insert table rows) = list_all (λ (row : List Cell). fill (table_types tables table) (row_types row)) rows
statement_is_typed tables (insert_select table select) = list_all (λ branch. fill (table_types tables table) (branch_types tables branch)) select
statement_is_typed tables (update table sets cond) = list_all (set_is_typed (table_types tables table)) sets && cond_is_typed (table_types tables table) cond
statement_is_typed tables (delete table cond) = cond_is_typed (table_types tables table) cond
statement_is_typed tables (read select) = select_is_typed tables select

-- ---- logs

abbrev pub entry_is_typed : List Table → Entry → Bool
entry_is_typed tables (Ran line session command t statement) = statement_is_typed tables statement
entry_is_typed tables entry = true

-- every statement of the log has types over the tables
abbrev pub statements_are_typed : List Table → List Entry → Bool
statements_are_typed tables = list_all (entry_is_typed tables)
