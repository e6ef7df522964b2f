use Rattle.std.proofs.Common.{◌≡◌, map, drop}
use Rattle.gp_algebra.specs.Effects.{set_for}
use Rattle.gp_algebra.specs.Views.{set_view}
use Rattle.gp_txn.proofs.assignment.new_cell.Given as goal

abbrev pub invariant-loop-set : goal.invariant-loop-set
invariant-loop-set l = set_for l.n (map set_view (drop l.set-index l.sets)) ≡ set_for l.n (map set_view l.sets)
