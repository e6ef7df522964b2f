use Rattle.gp_base.specs.TokenOrder.{monomial_cmp_total, monomial_cmp-exact}
use Rattle.gp_base.proofs.ProductLaws.{monomial_prefix}
use Rattle.gp_base.proofs.laws.monomials_are_ordered.Goals as goal

pub returns : goal.returns
returns c = record { total = monomial_cmp_total; exact = monomial_cmp-exact; prefix = monomial_prefix }
