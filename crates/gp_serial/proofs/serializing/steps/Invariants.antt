use Rattle.std.proofs.Common.{◌≡◌, ◌++◌, drop, map}
use Rattle.gp_log.specs.Contents.{entries, tables}
use Rattle.gp_serial.specs.Changes.{change_view}
use Rattle.gp_serial.specs.SerialViews.{step_view}
use Rattle.gp_serial.specs.Serializing.{steps_of, steps_to}
use Rattle.std.specs.Prelude.{get_or}
use Rattle.gp_serial.proofs.serializing.steps.Given as goal

-- the transactions that remain give the other steps
abbrev pub invariant-loop-place : goal.invariant-loop-place
invariant-loop-place l =
    map step_view l.steps.items ++ steps_to (tables l.log) (entries l.log) (map change_view l.changes) (get_or l.cycle 0 0) (drop l.place l.cycle)
    ≡ steps_of (tables l.log) (entries l.log) (map change_view l.changes) l.cycle
