-- Part of the statement: the titles of the columns of an answer that is exported with names. A column has its name as its title where it is a bare column of the query's
-- first SELECT, or one of `*`, and no column before it has that title. Else its title is `c` and its place.
use Rattle.std.specs.Prelude.{ℕ, suc, ◌-◌, Bool, List, [], ◌∷◌, ◌++◌, length, map, Option, Some, None, codes, if◌then◌else◌}
use Rattle.std.specs.Option.{option_map_or}
use Rattle.std.specs.Fmt.{decimal}
use Rattle.std.specs.List.{flat_map, list_any}
use Rattle.std.specs.Str.{bytes_eq}
use Rattle.gp_base.specs.declared.table.Column.{Column}
use Rattle.gp_base.specs.declared.table.Table.{Table}
use Rattle.gp_check.specs.Scopes.{columns_of}
use Rattle.gp_grammar.specs.Syntax as y
use Rattle.gp_grammar.specs.Syntax.{Bytes}

-- ---- the names of the columns of a query, where they have names

abbrev pub term_name : y.Term → Option Bytes
term_name (y.col item name) = Some name
term_name term = None

abbrev pub table_names : List Column → List (Option Bytes)
table_names columns = map (λ (column : Column). Some column.name) columns

abbrev pub star_names : List Table → List y.Item → List (Option Bytes)
star_names tables from = flat_map (λ (item : y.Item). table_names (columns_of tables item.table)) from

abbrev pub item_names : List Table → List y.Item → y.Items → List (Option Bytes)
item_names tables from y.star = star_names tables from
item_names tables from (y.list terms) = map term_name terms

abbrev pub query_names : List Table → y.Query → List (Option Bytes)
query_names tables [] = []
query_names tables (block ∷ blocks) = item_names tables block.from block.items

-- ---- their titles

abbrev pub is_title : List Bytes → Bytes → Bool
is_title titles name = list_any (λ (title : Bytes). bytes_eq title name) titles

-- the title of the next column behind these titles, of which so many are of no column of the query
abbrev pub title : ℕ → List Bytes → Option Bytes → Bytes
title others before name =
    let placed = codes "c" ++ decimal (suc (length before) - others) in
    option_map_or (λ (known : Bytes). if is_title before known then placed else known) name placed

-- these titles, and those of the columns
abbrev pub with_titles : ℕ → List Bytes → List (Option Bytes) → List Bytes
with_titles others before [] = before
with_titles others before (name ∷ names) = with_titles others (before ++ title others before name ∷ []) names

-- each row begins with the number of the question; that of a difference then has its sign
abbrev pub row_titles : List (Option Bytes) → List Bytes
row_titles names = with_titles 1 (codes "line" ∷ []) names

abbrev pub difference_titles : List (Option Bytes) → List Bytes
difference_titles names = with_titles 2 (codes "line" ∷ codes "side" ∷ []) names
