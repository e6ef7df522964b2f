use Rattle.std.proofs.Common.{drop, map}
use Rattle.gp_algebra.specs.Views.{branch_view, select_view}
use Rattle.gp_history.specs.Narrowing.{skips}
use Rattle.gp_history.specs.Seeking.{Grows}
use Rattle.gp_history.proofs.SeekingLemmas.{Seeks}
use Rattle.gp_history.proofs.sought.push_select.Given as goal

-- the branches that remain are still to be asked
abbrev pub invariant-loop-branch : goal.invariant-loop-branch
invariant-loop-branch l = record {
  kept : Grows l.initial.cells.items l.cells.items;
  seeks : Seeks (skips l.table) (select_view l.select) (map branch_view (drop l.branch-index l.select.branches)) l.cells.items;
}
