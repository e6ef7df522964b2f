use Rattle.std.proofs.Common.{◌≡◌, ◌++◌, take}
use Rattle.std.specs.List.{flat_map}
use Rattle.gp_ask.specs.Texts.{anomaly_lines}
use Rattle.gp_ask.proofs.display.append_anomalies.Given as goal

-- the lines of the cycles so far
abbrev pub invariant-loop-anomaly : goal.invariant-loop-anomaly
invariant-loop-anomaly l = l.out.items ≡ l.initial.out.items ++ flat_map anomaly_lines (take l.anomaly-index l.anomalies)
