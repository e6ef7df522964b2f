use Rattle.gp_versions.proofs.HeldLemmas.{held-end}
use Rattle.gp_versions.proofs.laws.a_span_ends_at_the_next_write.Goals as goal

pub returns : goal.returns
returns c = record { next = held-end }
