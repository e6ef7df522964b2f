use Rattle.gp_txn.proofs.active.Active.count.Goals as goal

pub returns : goal.returns
returns c = rw (c.writes.ensures.writes, c.spans_of-spans.ensures.spans) at c.count_at.ensures
