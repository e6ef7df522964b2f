use Rattle.std.proofs.Common.{◌≡◌, ◌++◌, map}
use Rattle.gp_log.specs.Contents.{entries, tables}
use Rattle.gp_serial.specs.Anomalies as s
use Rattle.gp_serial.specs.AnomalyViews.{anomaly_view}
use Rattle.gp_serial.specs.NameForms.{facts_of}
use Rattle.gp_serial.specs.PathForms.{numbers_of}
use Rattle.gp_serial.proofs.anomalies.told.Given as goal

-- the cycles that remain give the others
abbrev pub invariant-loop-cycle : goal.invariant-loop-cycle
invariant-loop-cycle l =
    map anomaly_view l.found.items ++ map (s.anomaly_of (facts_of (tables l.log) (entries l.log) l.lists)) (numbers_of l.cycle-iterator)
    ≡ map (s.anomaly_of (facts_of (tables l.log) (entries l.log) l.lists)) (numbers_of l.cycles.keys)
