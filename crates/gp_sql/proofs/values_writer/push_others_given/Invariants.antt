use Rattle.std.proofs.Common.{◌≡◌, ◌++◌, drop}
use Rattle.std.specs.Prelude.{flat_map}
use Rattle.gp_sql.specs.WrittenQueries.{given_behind}
use Rattle.gp_sql.proofs.values_writer.push_others_given.Given as goal

-- what was appended and the rows that remain are all rows
abbrev pub invariant-loop-row : goal.invariant-loop-row
invariant-loop-row l = l.out.items ++ flat_map (given_behind l.catalog l.due) (drop l.row-index l.rows) ≡ l.initial.out.items ++ flat_map (given_behind l.catalog l.due) l.rows
