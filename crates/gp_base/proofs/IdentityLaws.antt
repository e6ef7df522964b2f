-- Laws of the order of identities: a tie is what `same_identity` tests, and a proper prefix of a list sorts first.
use Rattle.std.proofs.Common.{◌≡◌, List, [], ◌∷◌, ◌++◌, refl, ap, ◌∙◌}
use Rattle.std.specs.Ordering.{is_eq, nat_cmp, ordering_then}
use Rattle.std.specs.Cmp.{both_tied, tied_itself, unsigned_ties}
use Rattle.std.specs.declared.cmp.Ordering.TheVariants.{Less}
use Rattle.gp_base.specs.Identities.{Identity, Sources, identity, no_sources, source, identity_cmp, sources_cmp, same_identity, same_sources}
use Rattle.gp_base.specs.IdentityForms.{sources_of}
use Rattle.gp_base.specs.IdentityOrder.{identity_cmp_total}

mutual
  pub same_identity-is : (one other : Identity) → same_identity one other ≡ is_eq (identity_cmp one other)
  same_identity-is (identity t k n ids) (identity u l m others) =
      both_tied _ _ (nat_cmp t u) _ (unsigned_ties t u) (both_tied _ _ (nat_cmp k l) _ (unsigned_ties k l) (both_tied _ _ (nat_cmp n m) (sources_cmp ids others) (unsigned_ties n m) (same_sources-is ids others)))

  same_sources-is : (ids others : Sources) → same_sources ids others ≡ is_eq (sources_cmp ids others)
  same_sources-is no_sources no_sources = refl
  same_sources-is no_sources (source id ids) = refl
  same_sources-is (source id ids) no_sources = refl
  same_sources-is (source id ids) (source other others) = both_tied _ _ (identity_cmp id other) (sources_cmp ids others) (same_identity-is id other) (same_sources-is ids others)

pub sources_prefix : (ids : List Identity) (id : Identity) (others : List Identity) → sources_cmp (sources_of ids) (sources_of (ids ++ id ∷ others)) ≡ Less
sources_prefix [] id others = refl
sources_prefix (first ∷ ids) id others = ap (λ o. ordering_then o (sources_cmp (sources_of ids) (sources_of (ids ++ id ∷ others)))) (tied_itself identity_cmp_total first) ∙ sources_prefix ids id others
