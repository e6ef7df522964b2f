use Rattle.std.proofs.Common.{subst}
use Rattle.gp_semiring.specs.WitnessForms.{IsPolynomial}
use Rattle.gp_semiring.proofs.TermLemmas.{with_terms_polynomial}
use Rattle.gp_semiring.proofs.poly.Poly.plain.Goals as goal

pub returns-else-is_empty-clause-polynomial : goal.returns-else-is_empty-clause-polynomial
returns-else-is_empty-clause-polynomial c = subst IsPolynomial c.self.view_is (with_terms_polynomial c.self.inside.recent.items c.self.inside.terms.items c.self.invariant.1 c.self.invariant.0)
