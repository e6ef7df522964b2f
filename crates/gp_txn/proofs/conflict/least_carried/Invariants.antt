use Rattle.std.proofs.Common.{◌≡◌, drop}
use Rattle.std.specs.List.{filter_map}
use Rattle.gp_txn.specs.Conflicts.{carried_late}
use Rattle.gp_txn.specs.LeastSoFar.{least_of}
use Rattle.gp_txn.proofs.conflict.least_carried.Given as goal

abbrev pub invariant-loop-row : goal.invariant-loop-row
invariant-loop-row l =
    least_of l.found (filter_map (carried_late l.table.spans) (drop l.row-index l.carried)) ≡ least_of l.initial.found (filter_map (carried_late l.table.spans) l.carried)
