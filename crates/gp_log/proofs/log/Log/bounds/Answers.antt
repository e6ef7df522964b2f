use Rattle.std.proofs.Common.{arith}
use Rattle.gp_log.proofs.log.Log.bounds.Goals as goal

pub returns-clause-commits : goal.returns-clause-commits
returns-clause-commits c = omega (arith, c.commits-commits.ensures, c.commits-commits.type_inv)

pub returns-clause-transactions : goal.returns-clause-transactions
returns-clause-transactions c = omega (arith, c.transactions-transactions.ensures, c.transactions-transactions.type_inv)
