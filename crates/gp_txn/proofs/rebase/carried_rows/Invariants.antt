use Rattle.std.proofs.Common.{◌≡◌, ◌++◌, map}
use Rattle.std.specs.Vec.Iter.{into_iter_items}
use Rattle.gp_txn.specs.Rebasing.{carried_of}
use Rattle.gp_txn.proofs.rebase.carried_rows.Given as goal

abbrev pub invariant-loop-write : goal.invariant-loop-write
invariant-loop-write l = l.rows.items ++ map (carried_of l.version) (into_iter_items l.write-iterator) ≡ map (carried_of l.version) (into_iter_items l.initial.write-iterator)
