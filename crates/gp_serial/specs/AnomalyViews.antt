-- Of the contract of `anomalies_of`: its answer as that of `Anomalies`.
use Rattle.std.specs.Prelude.{◌≡◌, Vec, map, Result, Ok, Err}
use Rattle.std.specs.declared.alloc.Global.{Global}
use Rattle.gp_serial.specs.declared.anomaly.Anomaly.{Anomaly}
use Rattle.gp_serial.specs.declared.error.SerialStop.{SerialStop}
use Rattle.gp_serial.specs.declared.error.SerialStop.TheVariants as stop
use Rattle.gp_serial.specs.Anomalies as s
use Rattle.gp_serial.specs.SerialViews.{step_view}

abbrev pub anomaly_view : Anomaly → s.Anomaly
anomaly_view anomaly = record { name = anomaly.name; phantom = anomaly.phantom; steps = map step_view anomaly.steps.items }

abbrev pub AreAnomalies : s.Anomalies → Result (Vec Anomaly Global) SerialStop → Type 0
AreAnomalies answer (Ok found) = s.Found (map anomaly_view found.items) ≡ answer
AreAnomalies answer (Err (stop.Refused refusal)) = s.Refused refusal ≡ answer
AreAnomalies answer (Err stop.NoMemory) = Unit {0}
