use Rattle.std.proofs.Common.{arith, rules}
use Rattle.gp_base.proofs.OrderLemmas.{sorted_rows_unique}
use Rattle.gp_base.proofs.sort.sort_rows.Goals as goal

pub returns-clause-permutation : goal.returns-clause-permutation
returns-clause-permutation c = search rules

pub returns-clause-sorted : goal.returns-clause-sorted
returns-clause-sorted c = search rules

pub returns-clause-unique : goal.returns-clause-unique
returns-clause-unique c = grind (arith, sorted_rows_unique)
