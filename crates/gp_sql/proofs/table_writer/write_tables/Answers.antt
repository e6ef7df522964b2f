use Rattle.gp_sql.specs.PlacedTables.{span_lists}
use Rattle.gp_sql.proofs.TableLemmas.{tables-kept}
use Rattle.gp_sql.proofs.table_writer.write_tables.Goals as goal

pub loop-place-preserved : goal.loop-place-preserved
loop-place-preserved c =
    tables-kept c.args.catalog.now (span_lists c.args.versions.now) c.loop-place.place c.loop-place.out.items c.write_table_at.new.out.items _ c.in_ok-write_table_at.ensures c.loop-place.invariant
