use Rattle.std.proofs.Common.{◌≡◌, ◌++◌, map, drop, length}
use Rattle.gp_algebra.specs.Answers.{values}
use Rattle.gp_algebra.specs.Effects.{assigned, assigned_from}
use Rattle.gp_algebra.specs.Views.{set_view}
use Rattle.gp_txn.proofs.assignment.assigned.Given as goal

abbrev pub invariant-loop-cell : goal.invariant-loop-cell
invariant-loop-cell l = record {
  rest : l.new ++ values (assigned_from (map set_view l.sets) l.n (length (drop l.cell-index l.row))) l.row ≡ assigned (map set_view l.sets) l.row;
  place : l.n ≡ l.cell-index;
}
