use Rattle.gp_semiring.proofs.SetLemmas.{sum_in}
use Rattle.gp_semiring.proofs.pos_bool.PosBoolSemiring.plus.Goals as goal

pub invariant_of-result : goal.invariant_of-result
invariant_of-result c = rw (c.in_ok-sets.ensures, c.as_slice-left.ensures.value) (sum_in c.self.inside.sets.items c.other.inside.sets.items c.self.invariant c.other.invariant)
