use Rattle.std.proofs.Common.{◌≡◌, ◌∙◌, ap, subst}
use Rattle.std.specs.Prelude.{IfOk}
use Rattle.gp_ask.specs.declared.answered.Answered.{Answered}
use Rattle.gp_ask.specs.declared.answered.Answered.TheVariants.{Refused}
use Rattle.gp_ask.proofs.intervals.selected_intervals.Goals as goal

pub returns-in-Ok : goal.returns-in-Ok
returns-in-Ok c = subst (λ (own : Answered). IfOk c.listed.result (λ answered. answered ≡ own)) c.in-Ok.ensures c.listed.ensures

pub returns-in-Err-Refused : goal.returns-in-Err-Refused
returns-in-Err-Refused c = ap Refused c.in-Err-Refused.refusal-is ∙ (rw c.in-Err-Refused.field-0-is at c.in-Err-Refused.ensures)
