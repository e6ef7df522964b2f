use Rattle.std.proofs.Common.{◌≡◌, ◌++◌, drop, map}
use Rattle.gp_log.specs.Contents.{entries, tables}
use Rattle.gp_serial.specs.SerialViews.{step_view}
use Rattle.gp_ask.specs.SerialAnswers.{step_text}
use Rattle.gp_ask.proofs.serial.cycle_lines.Given as goal

-- the steps that remain give the other lines
abbrev pub invariant-loop-step : goal.invariant-loop-step
invariant-loop-step l =
    l.lines ++ map (step_text (tables l.log) (entries l.log)) (map step_view (drop l.step-index l.steps)) ≡ map (step_text (tables l.log) (entries l.log)) (map step_view l.steps)
