use Rattle.std.proofs.Common.{◌≡◌, ◌++◌, drop}
use Rattle.gp_sql.specs.PlacedTables.{span_lists}
use Rattle.gp_sql.specs.TableTexts.{tables_text}
use Rattle.gp_sql.proofs.table_writer.write_tables.Given as goal

-- what was appended and the tables that remain are all tables
abbrev pub invariant-loop-place : goal.invariant-loop-place
invariant-loop-place l =
    l.out.items ++ tables_text (drop l.place l.catalog) (drop l.place (span_lists l.versions)) ≡ l.initial.out.items ++ tables_text l.catalog (span_lists l.versions)
