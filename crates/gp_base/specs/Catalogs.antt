-- Part of the statement: the catalogue of a history, its tables in order of creation. A table's number is its place, from 0.
use Rattle.std.specs.Prelude.{ℕ, List, map, Option, position}
use Rattle.std.specs.Str.{bytes_eq}
use Rattle.gp_base.specs.declared.table.Table.{Table}

abbrev pub table_names : List Table → List (List ℕ)
table_names = map (λ (table : Table). table.name)

-- the place of the table with this name
abbrev pub place_of : List ℕ → List Table → Option ℕ
place_of name tables = position (bytes_eq name) (table_names tables)
