use Rattle.std.proofs.Common.{◌≡◌, drop, map}
use Rattle.std.specs.List.{list_any}
use Rattle.gp_log.specs.Contents.{entries, tables}
use Rattle.gp_serial.specs.Anomalies as s
use Rattle.gp_serial.specs.NameForms.{facts_of}
use Rattle.gp_serial.specs.SerialViews.{step_view}
use Rattle.gp_serial.proofs.anomaly.has_phantom.Given as goal

-- the steps that remain decide
abbrev pub invariant-loop-step : goal.invariant-loop-step
invariant-loop-step l =
    list_any (s.is_phantom (facts_of (tables l.log) (entries l.log) l.lists)) (map step_view (drop l.step-index l.steps))
    ≡ list_any (s.is_phantom (facts_of (tables l.log) (entries l.log) l.lists)) (map step_view l.steps)
