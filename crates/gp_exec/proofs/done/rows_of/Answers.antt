use Rattle.std.proofs.Common.{List, ap, ◌∙◌}
use Rattle.std.specs.Borrow.{Bor}
use Rattle.gp_exec.proofs.DoneLemmas.{step_is_it, step_is_not}
use Rattle.gp_exec.proofs.done.rows_of.Goals as goal
use Rattle.gp_exec.proofs.done.rows_of.Goals.{then-step-j, else-step-j}

pub loop-step-preserved : goal.loop-step-preserved
loop-step-preserved g c = elim c.if-step-j.branch [
  | then-step-j w ↦
      step_is_it c.args.done.now c.loop-step.step-index c.step-item.result c.args.j c.if-step-j.found.now c.loop-step-test.true c.step-item.is w.if-step-j.true
      (ap (λ (r : Bor (List g.row.R.Denot)). r.now) w.found-is ∙ w.as_slice-found.ensures)
  | else-step-j w ↦
      step_is_not c.args.done.now c.loop-step.step-index c.step-item.result c.args.j c.if-step-j.found.now c.loop-step-test.true c.step-item.is w.if-step-j.false
      (ap (λ (r : Bor (List g.row.R.Denot)). r.now) w.found-is ∙ c.loop-step.invariant)
]
