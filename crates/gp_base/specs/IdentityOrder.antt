-- Machinery: the order of identities is total, and ties are between equal identities.
use Rattle.std.specs.Prelude.{◌≡◌, ℕ, List, [], ◌++◌, refl}
use Rattle.std.proofs.Common.{ap, sym, ◌∙◌, subst, append_assoc, append-nil}
use Rattle.std.specs.Ordering.{nat_cmp, on, ordering_then}
use Rattle.std.specs.declared.cmp.Ordering.{Ordering}
use Rattle.std.specs.declared.cmp.Ordering.TheVariants.{Less, Equal, Greater}
use Rattle.std.specs.Cmp.{IsTotalOrder, on_total}
use Rattle.std.specs.Cmp.Lexicographic.{slice_cmp}
use Rattle.std.proofs.lemmas.Cmp.{nat_list_cmp_total}
use Rattle.std.proofs.lemmas.Map.Lookups.{exact_bytes}
use Rattle.gp_base.specs.Identities.{Identity, Sources, identity, no_sources, source, identity_cmp, sources_cmp}
use Rattle.gp_base.specs.IdentityCodes.{code, sources_code, code-injective}

then_through : (o p q : Ordering) → ordering_then (ordering_then o p) q ≡ ordering_then o (ordering_then p q)
then_through Less p q = refl
then_through Equal p q = refl
then_through Greater p q = refl

-- what follows two codes decides only where the identities tie
mutual
  code_cmp : (id other : Identity) (xs ys : List ℕ) → slice_cmp nat_cmp (code id ++ xs) (code other ++ ys) ≡ ordering_then (identity_cmp id other) (slice_cmp nat_cmp xs ys)
  code_cmp (identity t k n ids) (identity u l m others) xs ys =
      ap (λ o. ordering_then (nat_cmp t u) (ordering_then (nat_cmp k l) (ordering_then (nat_cmp n m) o))) (sources_code_cmp ids others xs ys)
      ∙ ap (λ o. ordering_then (nat_cmp t u) (ordering_then (nat_cmp k l) o)) (sym (then_through (nat_cmp n m) (sources_cmp ids others) (slice_cmp nat_cmp xs ys)))
      ∙ ap (λ o. ordering_then (nat_cmp t u) o) (sym (then_through (nat_cmp k l) (ordering_then (nat_cmp n m) (sources_cmp ids others)) (slice_cmp nat_cmp xs ys)))
      ∙ sym (then_through (nat_cmp t u) (ordering_then (nat_cmp k l) (ordering_then (nat_cmp n m) (sources_cmp ids others))) (slice_cmp nat_cmp xs ys))

  sources_code_cmp : (ids others : Sources) (xs ys : List ℕ) → slice_cmp nat_cmp (sources_code ids ++ xs) (sources_code others ++ ys) ≡ ordering_then (sources_cmp ids others) (slice_cmp nat_cmp xs ys)
  sources_code_cmp no_sources no_sources xs ys = refl
  sources_code_cmp no_sources (source id ids) xs ys = refl
  sources_code_cmp (source id ids) no_sources xs ys = refl
  sources_code_cmp (source id ids) (source other others) xs ys =
      (λ i. slice_cmp nat_cmp (append_assoc (code id) (sources_code ids) xs i) (append_assoc (code other) (sources_code others) ys i))
      ∙ code_cmp id other (sources_code ids ++ xs) (sources_code others ++ ys)
      ∙ ap (ordering_then (identity_cmp id other)) (sources_code_cmp ids others xs ys)
      ∙ sym (then_through (identity_cmp id other) (sources_cmp ids others) (slice_cmp nat_cmp xs ys))

then_nothing : (o : Ordering) → ordering_then o Equal ≡ o
then_nothing Less = refl
then_nothing Equal = refl
then_nothing Greater = refl

-- the order of identities is that of their codes
identity_cmp-is : (id other : Identity) → on code (slice_cmp nat_cmp) id other ≡ identity_cmp id other
identity_cmp-is id other =
    (λ i. slice_cmp nat_cmp (sym (append-nil (code id)) i) (sym (append-nil (code other)) i)) ∙ code_cmp id other [] [] ∙ then_nothing (identity_cmp id other)

pub identity_cmp_total : IsTotalOrder identity_cmp
identity_cmp_total = subst IsTotalOrder (λ i id other. identity_cmp-is id other i) (on_total code nat_list_cmp_total)

-- a tie is between equal identities
pub identity_cmp-exact : (id other : Identity) → identity_cmp id other ≡ Equal → id ≡ other
identity_cmp-exact id other tie = code-injective id other (exact_bytes (code id) (code other) (identity_cmp-is id other ∙ tie))
