use Rattle.std.proofs.Common.{subst}
use Rattle.gp_semiring.specs.WitnessForms.{IsPolynomial}
use Rattle.gp_semiring.proofs.TermLemmas.{with_terms_polynomial}
use Rattle.gp_semiring.proofs.poly.PolySemiring.copy.Goals as goal

pub returns-clause-element : goal.returns-clause-element
returns-clause-element c = subst IsPolynomial c.self.view_is (with_terms_polynomial c.self.inside.recent.items c.self.inside.terms.items c.self.invariant.1 c.self.invariant.0)
