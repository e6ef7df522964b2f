-- Lemmas of `same_identity`.
use Rattle.std.proofs.Common.{◌≡◌, true, ap, sym, ◌∙◌, subst}
use Rattle.std.specs.Ordering.{is_eq}
use Rattle.std.specs.Cmp.{tied_itself}
use Rattle.gp_base.specs.Identities.{Identity, identity_cmp, same_identity}
use Rattle.gp_base.specs.IdentityOrder.{identity_cmp_total, identity_cmp-exact}
use Rattle.gp_base.proofs.IdentityLaws.{same_identity-is}
use Rattle.gp_base.proofs.OrderLemmas.{equal_from_is_eq}

-- equal identities are one
pub same-exact : (id other : Identity) → same_identity id other ≡ true → id ≡ other
same-exact id other is = identity_cmp-exact id other (equal_from_is_eq (identity_cmp id other) (sym (same_identity-is id other) ∙ is))

pub same-itself : (id : Identity) → same_identity id id ≡ true
same-itself id = same_identity-is id id ∙ ap is_eq (tied_itself identity_cmp_total id)

pub same-sym : (id other : Identity) → same_identity id other ≡ true → same_identity other id ≡ true
same-sym id other is = subst (λ x. same_identity x id ≡ true) (same-exact id other is) (same-itself id)
