use Rattle.std.proofs.Common.{◌≡◌, ◌∙◌, ap, map}
use Rattle.std.proofs.lemmas.Result.{IfOk-weaker}
use Rattle.gp_log.specs.Contents.{entries, tables}
use Rattle.gp_serial.specs.Changes.{change_view}
use Rattle.gp_serial.specs.Graphs.{least_cycle}
use Rattle.gp_serial.specs.Relations.{is_edge}
use Rattle.gp_serial.specs.SerialViews.{cycle_answer, serial_view}
use Rattle.gp_serial.specs.Serializing.{by_number}
use Rattle.gp_serial.specs.declared.serializing.Serial.{Serial}
use Rattle.gp_serial.proofs.serializing.cyclic.Goals as goal

pub returns : goal.returns
returns c =
    let all = tables c.args.log.now in
    let log = entries c.args.log.now in
    let changes = map change_view c.args.changes.now in
    IfOk-weaker c.found_cycle.result (λ (found : Serial). serial_view found ≡ cycle_answer all log changes c.deref-2.result.now)
    (λ (found : Serial). serial_view found ≡ cycle_answer all log changes (least_cycle (is_edge c.args.graph.now) (by_number log)))
    (λ found is. is ∙ ap (cycle_answer all log changes) (c.deref-2.ensures.value ∙ c.in_ok-cycle.ensures ∙ ap (least_cycle (is_edge c.args.graph.now)) (c.deref.ensures.value ∙ c.in_ok-numbers.ensures)))
    c.found_cycle.ensures
