use Rattle.std.proofs.Common.{◌∙◌}
use Rattle.gp_ask.proofs.TitleLemmas.{tables-step}
use Rattle.gp_ask.proofs.titles.push_tables.Goals as goal

pub loop-item-preserved : goal.loop-item-preserved
loop-item-preserved c = (
  tables-step c.args.catalog.now c.args.others c.loop-item.titles c.push_columns.new.titles c.args.from.now c.loop-item.item-index c.item-item.result c.columns_of.result.now
      c.loop-item-test.true c.item-item.is c.columns_of.ensures c.in_ok-push_columns.ensures.titles
      ∙ c.loop-item.invariant.0,
  c.in_ok-push_columns.ensures.within,
)
