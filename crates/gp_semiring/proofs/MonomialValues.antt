-- The value of a monomial, power by power.
use Rattle.std.proofs.Common.{[], ◌∷◌}
use Rattle.gp_base.specs.declared.token.Token.{Token}
use Rattle.gp_base.specs.Tokens.{Monomial}
use Rattle.gp_semiring.specs.Semirings.{SemiringLaws}
use Rattle.gp_semiring.proofs.PowerLemmas.{raised_in}
use Rattle.gp_semiring.specs.Values.{monomial_value}

module _ {K : Type 0} {element : K → Type 0} {zero_of one : K} {plus times : K → K → K} (laws : SemiringLaws element zero_of one plus times) (value : Token → K) (value_in : (t : Token) → element (value t)) where
  pub monomial_value-in : (ps : Monomial) → element (monomial_value one times value ps)
  monomial_value-in [] = laws.one_in
  monomial_value-in (p ∷ ps) = laws.times_in _ _ (raised_in laws (value p.0) p.1 (value_in p.0)) (monomial_value-in ps)
