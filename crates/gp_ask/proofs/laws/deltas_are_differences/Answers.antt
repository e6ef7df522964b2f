use Rattle.std.proofs.Common.{List, [], subst, ◌≡◌}
use Rattle.gp_base.specs.declared.cell.Cell.{Cell}
use Rattle.gp_ask.specs.Deltas.{delta}
use Rattle.gp_ask.proofs.DeltaLemmas.{balances, no_row_twice, none_itself, same_bags, sorted_delta}
use Rattle.gp_ask.proofs.laws.deltas_are_differences.Goals as goal

pub returns-clause-bags : goal.returns-clause-bags
returns-clause-bags c = balances

pub returns-clause-signs : goal.returns-clause-signs
returns-clause-signs c = no_row_twice

pub returns-clause-order : goal.returns-clause-order
returns-clause-order c = sorted_delta

pub returns-clause-none : goal.returns-clause-none
returns-clause-none c = λ rows others. (same_bags rows others, λ same. subst (λ (list : List (List Cell)). delta rows list ≡ []) same (none_itself rows))
