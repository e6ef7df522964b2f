-- Part of the statement: the faults of a statement against the tables of a catalogue, phase by phase, and the first of them.
use Rattle.std.specs.Prelude.{ℕ, ◌+◌, ◌==◌, Bool, true, false, ◌&&◌, List, [], ◌∷◌, ◌++◌, length, map, Option, Some, None, is_some, if◌then◌else◌}
use Rattle.std.specs.List.{flat_map, list_all, list_any}
use Rattle.std.specs.Option.{option_and_then, option_map, option_map_or, option_or}
use Rattle.std.specs.Str.{bytes_eq}
use Rattle.gp_base.specs.declared.cell.Cell.{Cell}
use Rattle.gp_base.specs.declared.refusal.Refusal.{Refusal}
use Rattle.gp_base.specs.declared.refusal.Refusal.TheVariants.{E04, E05, E06, E07, E08, E15}
use Rattle.gp_base.specs.declared.table.Column.{Column}
use Rattle.gp_base.specs.declared.table.Table.{Table}
use Rattle.gp_base.specs.Catalogs.{place_of}
use Rattle.gp_grammar.specs.Limits.{select_terms}
use Rattle.gp_grammar.specs.Syntax as y
use Rattle.gp_grammar.specs.Syntax.{Bytes, Term, SetTerm, Item, Items, Block, Query, Command}
use Rattle.gp_check.specs.declared.place.Resolution.{Resolution}
use Rattle.gp_check.specs.declared.place.Resolution.TheVariants.{Absent, Found, Ambiguous}
use Rattle.gp_check.specs.declared.types.TermType.{TermType}
use Rattle.gp_check.specs.Scopes.{Scope, ColumnName, columns_of, scope_of, target_scope, resolution}
use Rattle.gp_check.specs.Typing.{kind_type, cell_type, is_value, operand_passes, operands_agree, is_condition, type_of, column_type}

-- the first fault that an item of the list has
abbrev pub first_fault : {A B : Type 0} → (A → Option B) → List A → Option B
first_fault fault [] = None
first_fault fault (item ∷ items) = option_or (fault item) (first_fault fault items)

abbrev pub unless : Bool → Refusal → Option Refusal
unless holds refusal = if holds then None else Some refusal

-- the first name that stands in the list before, or behind these names
abbrev pub repeated_behind : List Bytes → List Bytes → Option Bytes
repeated_behind earlier [] = None
repeated_behind earlier (name ∷ names) =
    if list_any (bytes_eq name) earlier then Some name else repeated_behind (earlier ++ name ∷ []) names

abbrev pub first_repeated : List Bytes → Option Bytes
first_repeated = repeated_behind []

-- ---- E04: the tables, the target before those of FROM

abbrev pub table_fault : List Table → Bytes → Option Refusal
table_fault tables name = unless (is_some (place_of name tables)) (E04 name)

abbrev pub block_tables_fault : List Table → Block → Option Refusal
block_tables_fault tables block = first_fault (λ (item : Item). table_fault tables item.table) block.from

abbrev pub query_tables_fault : List Table → Query → Option Refusal
query_tables_fault tables = first_fault (block_tables_fault tables)

abbrev pub tables_fault : List Table → Command → Option Refusal
tables_fault tables (y.insert table rows) = table_fault tables table
tables_fault tables (y.insert_select table query) = option_or (table_fault tables table) (query_tables_fault tables query)
tables_fault tables (y.update table sets cond) = table_fault tables table
tables_fault tables (y.delete table cond) = table_fault tables table
tables_fault tables (y.select query) = query_tables_fault tables query
tables_fault tables _ = None

-- ---- E06: the FROM names of each SELECT

abbrev pub items_fault : Block → Option Refusal
items_fault block = option_map E06 (first_repeated (map (λ (item : Item). item.name) block.from))

abbrev pub names_fault : Command → Option Refusal
names_fault (y.insert_select table query) = first_fault items_fault query
names_fault (y.select query) = first_fault items_fault query
names_fault _ = None

-- ---- E05 and E06: the columns, in the order of the text; one that is set is before those of its term

abbrev pub resolution_fault : ColumnName → Resolution → Option Refusal
resolution_fault name Absent = Some (E05 name.item name.col)
resolution_fault name (Found place) = None
resolution_fault name Ambiguous = Some (E06 name.col)

abbrev pub column_fault : Scope → ColumnName → Option Refusal
column_fault scope name = resolution_fault name (resolution scope name)

abbrev pub term_fault : Scope → Term → Option Refusal
term_fault scope (y.col item name) = column_fault scope (record { item = item; col = name })
term_fault scope (y.binary o x z) = option_or (term_fault scope x) (term_fault scope z)
term_fault scope (y.neg x) = term_fault scope x
term_fault scope (y.not x) = term_fault scope x
term_fault scope (y.is_null x holds) = term_fault scope x
term_fault scope (y.is_true x holds) = term_fault scope x
term_fault scope (y.case x z u) = option_or (term_fault scope x) (option_or (term_fault scope z) (term_fault scope u))
term_fault scope _ = None

abbrev pub where_fault : Scope → Option Term → Option Refusal
where_fault scope = option_and_then (term_fault scope)

unfoldable pub block_columns_fault : List Table → Block → Option Refusal
block_columns_fault tables block =
    option_or (first_fault (term_fault (scope_of tables block.from)) (select_terms block.items)) (where_fault (scope_of tables block.from) block.cond)

abbrev pub set_name : SetTerm → ColumnName
set_name set = record { item = None; col = set.col }

abbrev pub set_fault : Scope → SetTerm → Option Refusal
set_fault scope set = option_or (column_fault scope (set_name set)) (term_fault scope set.term)

abbrev pub columns_fault : List Table → Command → Option Refusal
columns_fault tables (y.insert_select table query) = first_fault (block_columns_fault tables) query
columns_fault tables (y.update table sets cond) =
    option_or (first_fault (set_fault (target_scope tables table)) sets) (where_fault (target_scope tables table) cond)
columns_fault tables (y.delete table cond) = where_fault (target_scope tables table) cond
columns_fault tables (y.select query) = first_fault (block_columns_fault tables) query
columns_fault tables _ = None

-- ---- E08: the columns that are set

abbrev pub repeated_set : List SetTerm → Option Refusal
repeated_set sets = option_map E08 (first_repeated (map (λ (set : SetTerm). set.col) sets))

abbrev pub sets_fault : Command → Option Refusal
sets_fault (y.update table sets cond) = repeated_set sets
sets_fault _ = None

-- ---- E15: the numbers of columns

-- the number of columns of all tables: those up to the end of the last one
abbrev pub width_behind : ℕ → Scope → ℕ
width_behind width [] = width
width_behind width (source ∷ sources) = width_behind (source.before + length source.columns) sources

abbrev pub scope_width : Scope → ℕ
scope_width = width_behind 0

-- `*` stands for all columns of all tables of the FROM
abbrev pub items_width : Scope → Items → ℕ
items_width scope y.star = scope_width scope
items_width scope (y.list terms) = length terms

unfoldable pub block_width : List Table → Block → ℕ
block_width tables block = items_width (scope_of tables block.from) block.items

abbrev pub have_width : List Table → Query → ℕ → Bool
have_width tables query width = list_all (λ block. block_width tables block == width) query

-- as many columns in every block as in the first
abbrev pub have_one_width : List Table → Query → Bool
have_one_width tables [] = true
have_one_width tables (block ∷ query) = have_width tables query (block_width tables block)

abbrev pub widths_agree : List Table → Command → Bool
widths_agree tables (y.insert table rows) = list_all (λ (row : List Cell). length row == length (columns_of tables table)) rows
widths_agree tables (y.insert_select table query) = have_width tables query (length (columns_of tables table))
widths_agree tables (y.select query) = have_one_width tables query
widths_agree tables _ = true

-- ---- E07: the types

-- types of the columns of rows; None is that of a term that is not well typed
abbrev pub kind_types : List Column → List (Option TermType)
kind_types = map (λ (column : Column). Some (kind_type column.kind))

abbrev pub scope_types : Scope → List (Option TermType)
scope_types = flat_map (λ source. kind_types source.columns)

abbrev pub items_types : Scope → Items → List (Option TermType)
items_types scope y.star = scope_types scope
items_types scope (y.list terms) = map (type_of scope) terms

unfoldable pub block_types : List Table → Block → List (Option TermType)
block_types tables block = items_types (scope_of tables block.from) block.items

abbrev pub are_values : List (Option TermType) → Bool
are_values = list_all (operand_passes is_value)

abbrev pub where_is_typed : Scope → Option Term → Bool
where_is_typed scope cond = option_map_or (λ term. is_condition (type_of scope term)) cond true

unfoldable pub block_where_is_typed : List Table → Block → Bool
block_where_is_typed tables block = where_is_typed (scope_of tables block.from) block.cond

-- position by position
abbrev pub all_agree : List (Option TermType) → List (Option TermType) → Bool
all_agree [] [] = true
all_agree (a ∷ others) (b ∷ bs) = operands_agree a b && all_agree others bs
all_agree _ _ = false

-- each of the others with these
abbrev pub agree_with : List (Option TermType) → List (List (Option TermType)) → Bool
agree_with types = list_all (all_agree types)

-- each with each later one
abbrev pub pairs_agree : List (List (Option TermType)) → Bool
pairs_agree [] = true
pairs_agree (types ∷ others) = agree_with types others && pairs_agree others

-- a VALUES row and the columns of its table
abbrev pub cells_agree : List Column → List Cell → Bool
cells_agree columns cells = all_agree (kind_types columns) (map (λ (cell : Cell). Some (cell_type cell)) cells)

-- the value that is set agrees with its column
abbrev pub set_is_typed : Scope → SetTerm → Bool
set_is_typed scope set = operands_agree (column_type (resolution scope (set_name set))) (type_of scope set.term)

-- select lists of these types have values, each WHERE is a condition, and the blocks agree
abbrev pub blocks_are_typed : List Table → Query → List (List (Option TermType)) → Bool
blocks_are_typed tables query types = list_all are_values types && (list_all (block_where_is_typed tables) query && pairs_agree types)

abbrev pub query_is_typed : List Table → Query → Bool
query_is_typed tables query = blocks_are_typed tables query (map (block_types tables) query)

abbrev pub is_typed : List Table → Command → Bool
is_typed tables (y.insert table rows) = list_all (cells_agree (columns_of tables table)) rows
is_typed tables (y.insert_select table query) =
    query_is_typed tables query && agree_with (kind_types (columns_of tables table)) (map (block_types tables) query)
is_typed tables (y.update table sets cond) =
    list_all (set_is_typed (target_scope tables table)) sets && where_is_typed (target_scope tables table) cond
is_typed tables (y.delete table cond) = where_is_typed (target_scope tables table) cond
is_typed tables (y.select query) = query_is_typed tables query
is_typed tables _ = true

-- ---- the phases, each over the whole statement before the next

abbrev pub first_refusal : List Table → Command → Option Refusal
first_refusal tables command =
    option_or (tables_fault tables command)
    (option_or (names_fault command)
    (option_or (columns_fault tables command)
    (option_or (sets_fault command)
    (option_or (unless (widths_agree tables command) E15)
    (unless (is_typed tables command) E07)))))

-- ---- CREATE TABLE: the table's name, then its columns

abbrev pub table_refusal : List Table → Table → Option Refusal
table_refusal tables table =
    option_or (if is_some (place_of table.name tables) then Some (E08 table.name) else None)
    (option_map E08 (first_repeated (map (λ (column : Column). column.name) table.cols)))
