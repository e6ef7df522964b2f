use Rattle.std.proofs.Common.{refl}
use Rattle.std.specs.List.{flat_map}
use Rattle.gp_sql.specs.WrittenQueries.{given_behind}
use Rattle.gp_sql.proofs.ItemLemmas.{loop-kept}
use Rattle.gp_sql.proofs.ListLemmas.{item-there}
use Rattle.gp_sql.proofs.values_writer.push_others_given.Goals as goal

pub loop-row-preserved : goal.loop-row-preserved
loop-row-preserved c =
    let own = given_behind c.args.catalog.now c.args.due.now in
    loop-kept (λ n rows. flat_map own rows) (λ n row. own row) (λ n row rows. refl) c.args.rows.now c.loop-row.row-index c.row-item.result c.loop-row.out.items c.push_given_behind.new.out.items _
    (item-there c.args.rows.now c.loop-row.row-index c.row-item.result c.loop-row-test.true c.row-item.is) c.in_ok-push_given_behind.ensures c.loop-row.invariant
