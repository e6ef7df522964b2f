use Rattle.std.proofs.Common.{Global, Vec, ◌≡◌, ◌∙◌, List, Err, Ok, ap, map, subst, sym}
use Rattle.std.proofs.lemmas.Result.{IfOk-weaker}
use Rattle.gp_dump.specs.Views.{dump_view}
use Rattle.gp_log.specs.Contents.{entries, tables}
use Rattle.gp_log.specs.Parameters.{parameters}
use Rattle.gp_machine.specs.RowChanges.{tables_changes}
use Rattle.gp_reenact.specs.Reenacting.{spans_of}
use Rattle.gp_serial.specs.Anomalies.{anomalies_of}
use Rattle.gp_serial.specs.AnomalyViews.{AreAnomalies, anomaly_view}
use Rattle.gp_serial.specs.Changes.{tables_of}
use Rattle.gp_serial.specs.SerialViews.{IsSerializable}
use Rattle.gp_serial.specs.declared.anomaly.Anomaly.{Anomaly}
use Rattle.gp_versions.specs.Spans.{Versions}
use Rattle.gp_ask.specs.declared.answered.Answered.{Answered}
use Rattle.gp_ask.specs.declared.answered.Answered.TheVariants as answered
use Rattle.gp_ask.specs.AnomalyAnswers as a
use Rattle.gp_ask.proofs.SerialDumps.{anomalies_found, anomalies_refused, serializable}
use Rattle.gp_ask.proofs.anomalies.anomaly_answer.Goals as goal

pub anomalies_of-requires : goal.anomalies_of-requires
anomalies_of-requires c = record { rules = subst (IsSerializable c.args.dump.now.log) (sym c.as_slice.ensures) (serializable c.args.dump.now c.requires.rules) }

pub returns-in-Ok : goal.returns-in-Ok
returns-in-Ok c =
    let log = c.args.dump.now.log in
    IfOk-weaker c.anomaly_lines.result (λ (own : Answered). own ≡ answered.Anomalies (map (a.anomaly_text (tables log) (entries log)) (map anomaly_view c.deref.result.now)))
    (λ (own : Answered). own ≡ a.anomaly_answer (dump_view c.args.dump.now))
    (λ own is. is ∙ ap (λ (anomalies : List Anomaly). answered.Anomalies (map (a.anomaly_text (tables log) (entries log)) (map anomaly_view anomalies))) c.deref.ensures.value
    ∙ anomalies_found (entries log) c.args.dump.now.versions c.in-Ok.found
    (subst (λ (versions : List Versions). AreAnomalies (anomalies_of (tables log) (entries log) (tables_changes 0 (tables_of versions)) parameters (spans_of versions)) (Ok c.in-Ok.found)) c.as_slice.ensures c.in-Ok.ensures))
    c.anomaly_lines.ensures

pub returns-in-Err : goal.returns-in-Err
returns-in-Err c =
    let log = c.args.dump.now.log in
    anomalies_refused (entries log) c.args.dump.now.versions c.in-Err.stop c.unserialized.result
    (subst (λ (versions : List Versions). AreAnomalies (anomalies_of (tables log) (entries log) (tables_changes 0 (tables_of versions)) parameters (spans_of versions)) (Err c.in-Err.stop)) c.as_slice.ensures c.in-Err.ensures)
    c.unserialized.ensures
