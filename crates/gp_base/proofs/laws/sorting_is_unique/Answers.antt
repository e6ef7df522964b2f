use Rattle.gp_base.proofs.OrderLemmas.{rows_permuted, rows_sorted, sorted_rows_unique}
use Rattle.gp_base.proofs.laws.sorting_is_unique.Goals as goal

pub returns-clause-permutation : goal.returns-clause-permutation
returns-clause-permutation c = rows_permuted

pub returns-clause-sorted : goal.returns-clause-sorted
returns-clause-sorted c = rows_sorted

pub returns-clause-unique : goal.returns-clause-unique
returns-clause-unique c = sorted_rows_unique
