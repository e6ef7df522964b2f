use Rattle.std.proofs.Common.{◌≡◌, ◌++◌, drop, map}
use Rattle.gp_log.specs.Contents.{entries, tables}
use Rattle.gp_serial.specs.AnomalyViews.{anomaly_view}
use Rattle.gp_ask.specs.AnomalyAnswers.{anomaly_text}
use Rattle.gp_ask.proofs.anomalies.anomaly_texts.Given as goal

-- the cycles that remain give the other texts
abbrev pub invariant-loop-anomaly : goal.invariant-loop-anomaly
invariant-loop-anomaly l =
    l.texts ++ map (anomaly_text (tables l.log) (entries l.log)) (map anomaly_view (drop l.anomaly-index l.anomalies))
    ≡ map (anomaly_text (tables l.log) (entries l.log)) (map anomaly_view l.anomalies)
