use Rattle.std.proofs.Common.{◌≡◌, drop, map, true}
use Rattle.std.specs.List.{list_all}
use Rattle.gp_algebra.specs.Simple.{branch_is_simple}
use Rattle.gp_algebra.specs.Views.{branch_view, select_view}
use Rattle.gp_history.specs.Narrowing.{skips}
use Rattle.gp_history.proofs.inert.select_skips.Given as goal

-- the branches that remain decide, and are simple
abbrev pub invariant-loop-branch : goal.invariant-loop-branch
invariant-loop-branch l = record {
  skips : list_all (skips l.table l.row) (map branch_view (drop l.branch-index l.select.branches)) ≡ list_all (skips l.table l.row) (select_view l.select);
  simple : list_all branch_is_simple (map branch_view (drop l.branch-index l.select.branches)) ≡ true;
}
