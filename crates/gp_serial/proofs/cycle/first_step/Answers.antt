use Rattle.std.proofs.Common.{◌∙◌, false, get_or, sym}
use Rattle.std.proofs.lemmas.Bool.{and_left, and_right}
use Rattle.gp_serial.specs.Relations.{is_edge}
use Rattle.gp_serial.proofs.CycleLemmas.{step_passes}
use Rattle.gp_serial.proofs.cycle.first_step.Goals as goal
use Rattle.gp_serial.proofs.cycle.first_step.Goals.{else-is_flagged-via-then-is_flagged+else-has, else-is_flagged-via-else-is_flagged}

pub loop-place-preserved : goal.loop-place-preserved
loop-place-preserved c =
    let edge = is_edge c.args.graph.now in
    let all = c.args.all.now in
    let flagged = c.args.flagged.now in
    let place = c.loop-place.place in
    let flag = get_or flagged place false in
    let leads = edge c.args.from (get_or all place 0) in
    elim c.else-is_flagged.branch [
      | else-is_flagged-via-then-is_flagged+else-has w ↦
          step_passes edge c.args.from place all flagged c.loop-place-test.true (and_right flag leads (sym w.has.ensures ∙ w.if-has.false)) ∙ c.loop-place.invariant
      | else-is_flagged-via-else-is_flagged w ↦
          step_passes edge c.args.from place all flagged c.loop-place-test.true (and_left flag leads (sym c.is_flagged.ensures ∙ w.if-is_flagged.false)) ∙ c.loop-place.invariant
    ]
