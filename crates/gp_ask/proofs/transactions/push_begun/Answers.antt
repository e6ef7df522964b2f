use Rattle.gp_ask.proofs.transactions.push_begun.Goals as goal

pub transaction_line-requires-clause-first : goal.transaction_line-requires-clause-first
transaction_line-requires-clause-first c = (rw c.in-Begin.is at c.requires).0

pub transaction_line-requires-clause-within : goal.transaction_line-requires-clause-within
transaction_line-requires-clause-within c = (rw c.in-Begin.is at c.requires).1
