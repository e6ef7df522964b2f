use Rattle.gp_compose.proofs.composing.after.Goals as goal

pub returns : goal.returns
returns c = (
  rw c.in_ok-found.ensures.refusal (rw c.in_ok-found.ensures.t at c.in_ok-k.ensures.refusal),
  rw (c.in_ok-found.ensures.t, c.in_ok-k.ensures.same) at c.in_ok-read_after.ensures,
)
