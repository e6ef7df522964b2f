use Rattle.gp_base.specs.IdentityOrder.{identity_cmp_total, identity_cmp-exact}
use Rattle.gp_base.proofs.IdentityLaws.{same_identity-is, sources_prefix}
use Rattle.gp_base.proofs.laws.identities_are_ordered.Goals as goal

pub returns : goal.returns
returns c = record { total = identity_cmp_total; exact = identity_cmp-exact; same = same_identity-is; prefix = sources_prefix }
