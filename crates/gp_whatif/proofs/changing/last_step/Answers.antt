use Rattle.std.proofs.Common.{◌+◌, ◌∙◌, subst, sym}
use Rattle.gp_whatif.specs.Changing.{IsLastStep}
use Rattle.gp_whatif.proofs.AddingLemmas.{last_found, last_kept}
use Rattle.gp_whatif.proofs.changing.last_step.Goals as goal
use Rattle.gp_whatif.proofs.changing.last_step.Goals.{then-is_step, else-is_step}

pub loop-place-preserved : goal.loop-place-preserved
loop-place-preserved c =
    elim c.if-is_step.branch [
      | then-is_step w ↦
          subst (IsLastStep c.args.t c.args.log.now.entries (c.loop-place.place + 1)) (sym w.last-is)
          (last_found c.args.t c.args.log.now.entries c.loop-place.place c.entry.result.now c.loop-place.last c.entry.ensures.entry (sym c.is_step.ensures ∙ w.if-is_step.true))
      | else-is_step w ↦
          subst (IsLastStep c.args.t c.args.log.now.entries (c.loop-place.place + 1)) (sym w.last-is)
          (last_kept c.args.t c.args.log.now.entries c.loop-place.place c.entry.result.now c.loop-place.last c.entry.ensures.entry (sym c.is_step.ensures ∙ w.if-is_step.false) c.loop-place.invariant)
    ]
