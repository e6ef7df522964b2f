use Rattle.std.proofs.Common.{◌≡◌, ◌++◌, drop, map}
use Rattle.gp_algebra.specs.Views.{branch_view}
use Rattle.gp_machine.specs.Looks.{item_looks, occurs_in_branch}
use Rattle.gp_serial.specs.LookViews.{look_view, members_of}
use Rattle.gp_serial.specs.Meetings.{AreReady}
use Rattle.gp_serial.proofs.looks.push_branch.Given as goal

-- the items that remain give the other looks
abbrev pub invariant-loop-table : goal.invariant-loop-table
invariant-loop-table l = record {
  looks : map look_view l.looks.items ++ item_looks l.catalog (occurs_in_branch (branch_view l.branch)) (members_of l.branch.cond) l.before (drop l.table-index l.branch.from)
      ≡ map look_view l.initial.looks.items ++ item_looks l.catalog (occurs_in_branch (branch_view l.branch)) (members_of l.branch.cond) 0 l.branch.from;
  ready : AreReady l.initial.looks.items → AreReady l.looks.items;
}
