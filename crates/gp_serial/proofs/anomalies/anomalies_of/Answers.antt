use Rattle.std.proofs.Common.{◌∙◌, List, ap, map, subst}
use Rattle.gp_log.specs.Contents.{entries, tables}
use Rattle.gp_log.specs.Parameters.{parameters}
use Rattle.gp_machine.specs.RowChanges.{RowChange, tables_changes}
use Rattle.gp_reenact.specs.Reenacting.{spans_of}
use Rattle.gp_serial.specs.Anomalies as s
use Rattle.gp_serial.specs.AnomalyViews.{AreAnomalies}
use Rattle.gp_serial.specs.Changes.{change_view, tables_of}
use Rattle.gp_serial.proofs.AnomalyAnswering.{none_refused}
use Rattle.gp_serial.proofs.anomalies.anomalies_of.Goals as goal

pub returns : goal.returns
returns c =
    let all = tables c.args.log.now in
    let log = entries c.args.log.now in
    let changes = tables_changes 0 (tables_of c.args.versions.now) in
    subst (λ (answer : s.Anomalies). AreAnomalies answer c.answered.result)
    (ap (λ (own : List RowChange). s.found all log own parameters) (ap (map change_view) c.deref-3.ensures.value ∙ c.in_ok-changes.ensures.changes)
    ∙ none_refused all log changes (spans_of c.args.versions.now) c.in_ok-check_runs.ensures)
    c.answered.ensures
