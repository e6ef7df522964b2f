use Rattle.gp_rewrite.proofs.PlaceLemmas.{query_at_place}
use Rattle.gp_rewrite.proofs.branch.table_query.Goals as goal

pub returns : goal.returns
returns c = rw (← query_at_place c.args.tables.now c.args.table c.index-tables-table.result c.requires c.index-tables-table.is) c.copy_query.ensures
