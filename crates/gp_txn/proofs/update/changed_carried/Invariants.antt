use Rattle.std.proofs.Common.{◌≡◌, ◌++◌, drop}
use Rattle.gp_txn.specs.Changes.{change_view}
use Rattle.gp_txn.specs.Slots.{changed_carried}
use Rattle.gp_txn.proofs.update.changed_carried.Given as goal

abbrev pub invariant-loop-row : goal.invariant-loop-row
invariant-loop-row l = l.new.items ++ changed_carried (change_view l.change) (drop l.row-index l.carried) ≡ changed_carried (change_view l.change) l.carried
