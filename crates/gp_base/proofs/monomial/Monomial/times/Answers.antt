use Rattle.gp_base.proofs.MonomialLemmas.{IsMonomial-times}
use Rattle.gp_base.proofs.monomial.Monomial.times.Goals as goal

pub invariant_of-result : goal.invariant_of-result
invariant_of-result c =
    rw (c.in_ok-powers.ensures, c.as_slice.ensures, c.as_slice-2.ensures) (IsMonomial-times c.self.inside.powers.items c.other.inside.powers.items c.self.invariant c.other.invariant)
