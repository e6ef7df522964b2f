use Rattle.std.proofs.Common.{◌+◌, ◌++◌, ◌∙◌, ap, drop, get_or, map, refl}
use Rattle.gp_log.specs.Contents.{entries, tables}
use Rattle.gp_serial.specs.Changes.{change_view}
use Rattle.gp_serial.specs.SerialViews.{step_view}
use Rattle.gp_serial.specs.Serializing.{step_of, steps_to}
use Rattle.gp_serial.proofs.StepLemmas.{steps_more, steps_start}
use Rattle.gp_serial.proofs.serializing.steps.Goals as goal

pub loop-place-init : goal.loop-place-init
loop-place-init c =
    let all = tables c.args.log.now in
    let log = entries c.args.log.now in
    let changes = map change_view c.args.changes.now in
    let cycle = c.args.cycle.now in
    ap (λ own. map step_view own ++ steps_to all log changes (get_or cycle 0 0) (drop 0 cycle)) c.in_ok-steps.ensures.items ∙ steps_start all log changes cycle

pub loop-place-preserved : goal.loop-place-preserved
loop-place-preserved c =
    let all = tables c.args.log.now in
    let log = entries c.args.log.now in
    let changes = map change_view c.args.changes.now in
    let cycle = c.args.cycle.now in
    let place = c.loop-place.place in
    ap (λ own. map step_view own ++ steps_to all log changes (get_or cycle 0 0) (drop (place + 1) cycle)) c.in_ok-push.ensures.items
    ∙ steps_more all log changes (get_or cycle 0 0) cycle place c.loop-place.steps.items c.in_ok-make_step.field-0 refl c.loop-place-test.true
    (c.in_ok-make_step.ensures ∙ ap (step_of all log changes (get_or cycle place 0)) c.next_in.ensures)
    ∙ c.loop-place.invariant
