use Rattle.std.proofs.Common.{arith}
use Rattle.gp_sql.proofs.ItemLemmas.{columns-kept}
use Rattle.gp_sql.proofs.item_writer.push_columns.Goals as goal

pub loop-others-preserved : goal.loop-others-preserved
loop-others-preserved c =
    let inv = c.loop-others.invariant in
    let next = c.in_ok-n.ensures in
    record {
      number = omega (arith, next.number, inv.number);
      text =
          columns-kept c.args.prefix.now c.args.types.now c.loop-others.n c.in_ok-n.n c.loop-others.others c.loop-others.out.items c.push_column.new.out.items _
          c.loop-others-test.true next.number next.text inv.text;
    }
