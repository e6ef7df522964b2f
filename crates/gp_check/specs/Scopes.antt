-- Part of the statement: what the names of columns stand for in a SELECT, an UPDATE or a DELETE.
use Rattle.std.specs.Prelude.{ℕ, suc, ◌+◌, Bool, true, List, [], ◌∷◌, length, Option, Some, None, filter_map, if◌then◌else◌, option_and_then, slice_get}
use Rattle.std.specs.Option.{option_map_or}
use Rattle.std.specs.Str.{bytes_eq}
use Rattle.gp_base.specs.declared.table.Column.{Column}
use Rattle.gp_base.specs.declared.table.Table.{Table}
use Rattle.gp_base.specs.Catalogs.{place_of}
use Rattle.gp_grammar.specs.Syntax.{Bytes, Item}
use Rattle.gp_check.specs.declared.place.Place.{Place}
use Rattle.gp_check.specs.declared.place.Resolution.{Resolution}
use Rattle.gp_check.specs.declared.place.Resolution.TheVariants.{Absent, Found, Ambiguous}

-- a table that columns can be of: its name in the statement, its columns, and the number of columns before them, where the columns of
-- all tables stand side by side
pub record Source : Type 0 where
  pub name : Bytes
  pub before : ℕ
  pub columns : List Column

-- the tables of a FROM, in order
abbrev pub Scope : Type 0
Scope = List Source

-- the columns of the table with this name; none if there is no such table
abbrev pub columns_of : List Table → Bytes → List Column
columns_of tables name = option_map_or (λ (table : Table). table.cols) (option_and_then (slice_get tables) (place_of name tables)) []

-- a FROM behind this many columns
abbrev pub scope_behind : ℕ → List Table → List Item → Scope
scope_behind before tables [] = []
scope_behind before tables (item ∷ items) =
    record { name = item.name; before = before; columns = columns_of tables item.table }
    ∷ scope_behind (before + length (columns_of tables item.table)) tables items

abbrev pub scope_of : List Table → List Item → Scope
scope_of = scope_behind 0

-- an UPDATE or a DELETE has one table, under its own name
abbrev pub target_scope : List Table → Bytes → Scope
target_scope tables table = scope_of tables (record { table = table; name = table } ∷ [])

-- a column that a term names, with the FROM name before it, if one is written
pub record ColumnName : Type 0 where
  pub item : Option Bytes
  pub col : Bytes

-- the first of some columns with this name, behind this many columns; columns count from 1
abbrev pub place_behind : ℕ → Bytes → List Column → Option Place
place_behind before col [] = None
place_behind before col (column ∷ columns) =
    if bytes_eq col column.name then Some (record { number = suc before; kind = column.kind }) else place_behind (suc before) col columns

-- a column without a FROM name may be of every source
abbrev pub may_be_of : Option Bytes → Source → Bool
may_be_of item source = option_map_or (λ (name : Bytes). bytes_eq name source.name) item true

abbrev pub place_in : ColumnName → Source → Option Place
place_in name source = if may_be_of name.item source then place_behind source.before name.col source.columns else None

abbrev pub only_place : List Place → Resolution
only_place [] = Absent
only_place (place ∷ []) = Found place
only_place (place ∷ other ∷ others) = Ambiguous

-- the column that a name stands for: the only one, of all sources
abbrev pub resolution : Scope → ColumnName → Resolution
resolution scope name = only_place (filter_map (place_in name) scope)
