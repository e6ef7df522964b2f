use Rattle.std.proofs.Common.{◌≡◌, ◌++◌, drop, map}
use Rattle.std.specs.List.{flat_map}
use Rattle.gp_algebra.specs.Views.{branch_view}
use Rattle.gp_machine.specs.Looks.{branch_looks}
use Rattle.gp_serial.specs.LookViews.{AreSimpleBranches, look_view}
use Rattle.gp_serial.specs.Meetings.{AreReady}
use Rattle.gp_serial.proofs.looks.query_looks.Given as goal

-- the SELECTs that remain give the other looks
abbrev pub invariant-loop-branch : goal.invariant-loop-branch
invariant-loop-branch l = record {
  looks : map look_view l.looks.items ++ flat_map (branch_looks l.catalog) (map branch_view (drop l.branch-index l.branches))
      ≡ flat_map (branch_looks l.catalog) (map branch_view l.branches);
  simple : AreSimpleBranches (drop l.branch-index l.branches);
  ready : AreReady l.looks.items;
}
