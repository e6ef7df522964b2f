use Rattle.std.proofs.Common.{◌≡◌, drop, map, true}
use Rattle.std.specs.List.{list_all}
use Rattle.gp_algebra.specs.Statements.{Branch}
use Rattle.gp_algebra.specs.Views.{branch_view, select_view}
use Rattle.gp_ask.specs.HistoryForms.{branch_meets, is_simple_branch}
use Rattle.gp_ask.specs.RowHistories.{meets}
use Rattle.gp_ask.proofs.row_histories.meets.Given as goal

-- the branches that remain are simple, and decide
abbrev pub invariant-loop-branch : goal.invariant-loop-branch
invariant-loop-branch l =
    record {
      simple : list_all is_simple_branch (map branch_view (drop l.branch-index l.select.branches)) ≡ true;
      decide : list_all (λ (branch : Branch). branch_meets branch l.row) (map branch_view (drop l.branch-index l.select.branches)) ≡ meets (select_view l.select) l.row;
    }
