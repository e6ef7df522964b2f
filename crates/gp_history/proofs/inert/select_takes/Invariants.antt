use Rattle.std.proofs.Common.{◌≡◌, drop, map}
use Rattle.std.specs.List.{list_any}
use Rattle.gp_algebra.specs.Views.{branch_view, select_view}
use Rattle.gp_history.specs.Narrowing.{takes}
use Rattle.gp_history.proofs.inert.select_takes.Given as goal

-- the branches that remain decide
abbrev pub invariant-loop-branch : goal.invariant-loop-branch
invariant-loop-branch l = list_any (takes l.table) (map branch_view (drop l.branch-index l.select.branches)) ≡ list_any (takes l.table) (select_view l.select)
