use Rattle.std.proofs.Common.{arith}
use Rattle.gp_log.specs.Logs.{log_view}
use Rattle.gprom_cli.proofs.SummaryLemmas.{lost-few}
use Rattle.gprom_cli.proofs.summary.count_lost.Goals as goal

-- no more are lost than there are
pub overflow_add-lost : goal.overflow_add-lost
overflow_add-lost c =
    let so_far = c.loop-t in
    let few = lost-few (log_view c.args.log.now.entries) so_far.t in
    let lost = so_far.invariant.0 in
    omega (arith, few, lost)
