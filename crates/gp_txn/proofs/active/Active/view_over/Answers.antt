use Rattle.gp_txn.proofs.active.Active.view_over.Goals as goal

pub returns : goal.returns
returns c = rw c.writes_or-writes.ensures at c.view_at.ensures
