use Rattle.gp_txn.proofs.RebaseLemmas.{view-moved}
use Rattle.gp_txn.proofs.rebase.writes_for.Goals as goal

pub returns-clause-view : goal.returns-clause-view
returns-clause-view c = view-moved c.args.version c.args.writes.now c.args.spans.now c.in_ok-moved.field-0 c.in_ok-moved.ensures
