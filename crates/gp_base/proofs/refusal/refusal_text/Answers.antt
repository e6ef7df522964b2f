use Rattle.gp_base.proofs.refusal.refusal_text.Goals as goal

-- src/refusal.rt:303:1
pub returns-in-E31 : goal.returns-in-E31
returns-in-E31 c = rw c.in-E31.is c.conflict_text-in-E31.ensures
