use Rattle.std.proofs.Common.{◌≡◌, map, take}
use Rattle.gp_base.specs.declared.table.Column.{Column}
use Rattle.gp_sql.specs.CellTypes.{kind_type}
use Rattle.gp_sql.proofs.query_types.column_types.Given as goal

abbrev pub invariant-loop-column : goal.invariant-loop-column
invariant-loop-column l = l.types ≡ map (λ (column : Column). kind_type column.kind) (take l.column-index l.columns)
