use Rattle.std.proofs.Common.{length}
use Rattle.gp_sql.proofs.WriterLemmas.{crossed-writes}
use Rattle.gp_sql.proofs.block_writer.push_crossed_items.Goals as goal

pub returns : goal.returns
returns c =
    crossed-writes c.args._catalog.now (length c.args.types.now) (length c.args.others.now) c.in_ok-width.width c.args.out.now.items c.push_columns.new.out.items c.push_columns-2.new.out.items
    c.in_ok-width.ensures.text c.in_ok-width.ensures.number c.in_ok-push_columns.ensures.text
