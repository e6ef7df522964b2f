use Rattle.std.proofs.Common.{◌≡◌, drop, map}
use Rattle.std.specs.List.{list_any}
use Rattle.gp_machine.specs.Precedence.{meets}
use Rattle.gp_serial.specs.Changes.{change_view}
use Rattle.gp_serial.specs.LookViews.{look_view}
use Rattle.gp_serial.specs.Meetings.{AreReady}
use Rattle.gp_serial.proofs.meeting.meets_any.Given as goal

-- the looks that remain decide, and they are ready
abbrev pub invariant-loop-look : goal.invariant-loop-look
invariant-loop-look l = record {
  rest : list_any (meets (change_view l.change)) (map look_view (drop l.look-index l.looks)) ≡ list_any (meets (change_view l.change)) (map look_view l.looks);
  ready : AreReady (drop l.look-index l.looks);
}
