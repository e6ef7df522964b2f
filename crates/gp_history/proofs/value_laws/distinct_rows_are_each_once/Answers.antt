use Rattle.gp_history.proofs.OrderLemmas.{distinct_ascending, distinct_members}
use Rattle.gp_history.proofs.value_laws.distinct_rows_are_each_once.Goals as goal

pub returns : goal.returns
returns c = record { ascending = λ rows. distinct_ascending rows; members = λ row rows. distinct_members row rows }
