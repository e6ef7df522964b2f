use Rattle.std.proofs.Common.{◌≡◌, ◌++◌, drop}
use Rattle.gp_txn.specs.Changes.{change_view}
use Rattle.gp_txn.specs.Slots.{changed_own}
use Rattle.gp_txn.proofs.update.changed_own.Given as goal

abbrev pub invariant-loop-stored : goal.invariant-loop-stored
invariant-loop-stored l = l.new ++ changed_own (change_view l.change) (drop l.stored-index l.own) ≡ changed_own (change_view l.change) l.own
