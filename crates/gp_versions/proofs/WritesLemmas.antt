-- A search among sorted identities of writes.
use Rattle.std.proofs.Common.{◌≡◌, ℕ, List, [], ◌∷◌, map, length, Result, Ok, Err, refl, ap, sym, ◌∙◌, arith, is_ok, inl, inr}
use Rattle.std.specs.List.{list_any}
use Rattle.std.specs.List.Sorted.{IsSorted, IsPermutation, IsBinarySearchResult, IsSearchInRange}
use Rattle.std.specs.Ordering.{is_eq}
use Rattle.std.proofs.lemmas.Bool.{cases_lt}
use Rattle.std.proofs.lemmas.List.Folds.{list_any_at, list_any_none}
use Rattle.std.proofs.lemmas.List.Sorted.{searchable_from_sorted, list_any-IsPermutation}
use Rattle.gp_base.specs.Identities.{Identity, identity_cmp}
use Rattle.gp_base.specs.IdentityOrder.{identity_cmp_total}
use Rattle.gp_base.proofs.IdentityLaws.{same_identity-is}
use Rattle.gp_versions.specs.declared.span.Write.{Write}
use Rattle.gp_versions.specs.Commits.{is_written}
use Rattle.gp_versions.specs.Written.{id_of}

pub searched : (ids : List Identity) (id : Identity) (r : Result ℕ ℕ) → IsSorted identity_cmp ids → IsSearchInRange r (length ids) → IsBinarySearchResult (λ y. identity_cmp y id) ids r → is_ok r ≡ list_any (λ other. is_eq (identity_cmp other id)) ids
searched ids id (Ok i) sorted within found = sym (list_any_at (λ other. is_eq (identity_cmp other id)) ids i id within (ap is_eq (found id)))
searched ids id (Err i) sorted within found =
    let parts = found (searchable_from_sorted identity_cmp_total (λ y. y) ids id sorted) in
    sym (list_any_none (λ other. is_eq (identity_cmp other id)) ids (λ k d below.
    elim (cases_lt k i) [
      | inl early ↦ ap is_eq (parts.0 k d (omega arith) early)
      | inr late ↦ ap is_eq (parts.1 k d late below)
    ]))

among-ids : (writes : List Write) (id : Identity) → list_any (λ other. is_eq (identity_cmp other id)) (map id_of writes) ≡ is_written writes id
among-ids [] id = refl
among-ids (write ∷ writes) id =
    let here = same_identity-is write.id id in
    let rest = among-ids writes id in
    cc

pub written-among : (writes : List Write) (ids : List Identity) (id : Identity) → IsPermutation (map id_of writes) ids → list_any (λ other. is_eq (identity_cmp other id)) ids ≡ is_written writes id
written-among writes ids id same = sym (list_any-IsPermutation (λ other. is_eq (identity_cmp other id)) (map id_of writes) ids same) ∙ among-ids writes id
