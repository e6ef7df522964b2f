use Rattle.std.proofs.Common.{◌≡◌, ◌++◌, drop}
use Rattle.gp_txn.proofs.rebase.copied_own.Given as goal

abbrev pub invariant-loop-stored : goal.invariant-loop-stored
invariant-loop-stored l = l.copies ++ drop l.stored-index l.own ≡ l.own
