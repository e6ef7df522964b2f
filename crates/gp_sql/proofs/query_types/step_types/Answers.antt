use Rattle.gp_sql.proofs.CodeLemmas.{step-kept}
use Rattle.gp_sql.proofs.ListLemmas.{item-there}
use Rattle.gp_sql.proofs.query_types.step_types.Goals as goal

pub loop-step-preserved : goal.loop-step-preserved
loop-step-preserved c =
    step-kept c.args.steps.now c.loop-step.step-index c.step-item.result (item-there c.args.steps.now c.loop-step.step-index c.step-item.result c.loop-step-test.true c.step-item.is)
    c.args.j c.loop-step.found _ c.loop-step.invariant c.in_ok-found.found c.in_ok-found.ensures
