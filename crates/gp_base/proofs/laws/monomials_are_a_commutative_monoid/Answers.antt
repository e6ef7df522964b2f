use Rattle.std.proofs.Common.{refl}
use Rattle.gp_base.proofs.ProductLaws.{times-one, times-associative, times-commutative}
use Rattle.gp_base.proofs.laws.monomials_are_a_commutative_monoid.Goals as goal

pub returns : goal.returns
returns c = record { left_unit = λ a. refl; right_unit = times-one; associative = times-associative; commutative = times-commutative }
