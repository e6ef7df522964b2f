use Rattle.std.proofs.Common.{◌≡◌, ◌++◌, drop, map}
use Rattle.std.specs.List.{flat_map}
use Rattle.gp_serial.specs.SerialViews.{step_view}
use Rattle.gp_ask.specs.AnomalyAnswers.{number_text}
use Rattle.gp_ask.proofs.anomalies.append_numbers.Given as goal

-- the steps that remain give the other numbers
abbrev pub invariant-loop-step : goal.invariant-loop-step
invariant-loop-step l =
    l.out.items ++ flat_map number_text (map step_view (drop l.step-index l.steps)) ≡ l.initial.out.items ++ flat_map number_text (map step_view l.steps)
