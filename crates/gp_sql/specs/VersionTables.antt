-- Part of the statement: row versions as rows of SQL.
use Rattle.std.specs.Prelude.{◌≡◌, ℕ, zero, suc, true, List, [], ◌∷◌, map, pos, slice_get, Option, Some, None}
use Rattle.std.specs.List.{AllByRecursion}
use Rattle.std.specs.Option.{option_map_or}
use Rattle.gp_base.specs.declared.cell.Cell.{Cell}
use Rattle.gp_base.specs.declared.cell.Cell.TheVariants as cell
use Rattle.gp_base.specs.declared.table.Table.{Table}
use Rattle.gp_base.specs.Identities.{identity_text}
use Rattle.gp_versions.specs.declared.span.Span.{Span}
use Rattle.gp_algebra.specs.Statements.{width_of}
use Rattle.gp_sql.specs.Meaning.{Relation}
use Rattle.gp_sql.specs.Sql as s
use Rattle.gp_sql.specs.Sql.{Column, Source}
use Rattle.gp_sql.specs.CellTypes.{AreOf, column_types, numbers_fit}

-- the version at which a row ends, or NULL
abbrev pub end_cell : Option ℕ → Cell
end_cell to = option_map_or (λ (n : ℕ). cell.Int (pos n)) to cell.Null

-- the text of the identity, the versions at which the row begins and ends, and the row
abbrev pub version_row : Span → List Cell
version_row span = cell.Text (identity_text span.id) ∷ cell.Int (pos span.from) ∷ end_cell span.to ∷ span.row

-- so many columns of a table, this one first
abbrev pub stored_names : ℕ → ℕ → ℕ → List Column
stored_names table n zero = []
stored_names table n (suc count) = s.stored table n ∷ stored_names table (suc n) count

-- the tables of row versions; there is nothing else before a WITH
abbrev pub version_tables : List Table → (ℕ → List Span) → Source → Relation
version_tables tables spans (s.versions table) =
    record { columns = s.identity ∷ s.begins ∷ s.ends ∷ stored_names table 0 (width_of tables table); rows = map version_row (spans table) }
version_tables tables spans _ = record { columns = []; rows = [] }

-- each row has a cell of the type of each column, and the numbers of its identity have 32 bits
abbrev pub SpanFits : Table → Span → Type 0
SpanFits table span = (numbers_fit span.id ≡ true) × AreOf span.row (column_types table)

abbrev pub SpansFit : Option Table → List Span → Type 0
SpansFit None spans = Unit {0}
SpansFit (Some table) spans = AllByRecursion (SpanFits table) spans

abbrev pub AllSpansFit : List Table → (ℕ → List Span) → Type 0
AllSpansFit tables spans = (table : ℕ) → SpansFit (slice_get tables table) (spans table)
