-- A search among the sorted identities of rows that are carried over.
use Rattle.std.proofs.Common.{◌≡◌, List, [], ◌∷◌, map, refl, sym, ◌∙◌}
use Rattle.std.specs.List.{list_any}
use Rattle.std.specs.List.Sorted.{IsPermutation}
use Rattle.std.specs.Ordering.{is_eq}
use Rattle.std.proofs.lemmas.List.Sorted.{list_any-IsPermutation}
use Rattle.gp_base.specs.Identities.{Identity, identity_cmp}
use Rattle.gp_base.proofs.IdentityLaws.{same_identity-is}
use Rattle.gp_txn.specs.declared.carried.Carried.{Carried}
use Rattle.gp_txn.specs.CarriedCode.{carried_id}
use Rattle.gp_txn.specs.Overlay.{is_carried}

among-ids : (carried : List Carried) (id : Identity) → list_any (λ other. is_eq (identity_cmp other id)) (map carried_id carried) ≡ is_carried carried id
among-ids [] id = refl
among-ids (row ∷ rows) id =
    let here = same_identity-is row.id id in
    let rest = among-ids rows id in
    cc

pub carried-among : (carried : List Carried) (ids : List Identity) (id : Identity) → IsPermutation (map carried_id carried) ids → list_any (λ other. is_eq (identity_cmp other id)) ids ≡ is_carried carried id
carried-among carried ids id same = sym (list_any-IsPermutation (λ other. is_eq (identity_cmp other id)) (map carried_id carried) ids same) ∙ among-ids carried id
