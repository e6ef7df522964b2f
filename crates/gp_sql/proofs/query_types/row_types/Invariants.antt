use Rattle.std.proofs.Common.{◌≡◌, map, drop}
use Rattle.gp_sql.specs.Types.{row_types}
use Rattle.gp_sql.proofs.CodeLemmas.{types_behind}
use Rattle.gp_sql.proofs.query_types.row_types.Given as goal

-- the types that were found and those that remain are all types
abbrev pub invariant-loop-cell : goal.invariant-loop-cell
invariant-loop-cell l = types_behind l.found (row_types (drop l.cell-index l.cells)) ≡ row_types l.cells
