-- The annotations of computed rows, as they are added one by one.
use Rattle.std.proofs.Common.{◌≡◌, zero, suc, Bool, true, false, true≢false, cond, List, [], ◌∷◌, All, refl, sym, ap, ◌∙◌, arith, Option, Some, None}
use Rattle.std.specs.BTreeMap.{BTreeMap, Updates, get, is_at}
use Rattle.std.specs.Map.{keys_of, lookup}
use Rattle.std.proofs.lemmas.Bool.{false_from_ne_true}
use Rattle.std.specs.Option.{option_or}
use Rattle.std.specs.Prelude.{is_some}
use Rattle.std.specs.Ordering.{is_eq, is_lt}
use Rattle.gp_base.specs.Identities.{Identity, identity_cmp}
use Rattle.gp_base.specs.IdentityOrder.{identity_cmp-exact}
use Rattle.gp_history.specs.Noted.{noted}
use Rattle.gp_base.proofs.OrderLemmas.{equal_from_is_eq}

module _ {M : Type 0} where
  absent : (o : Option M) → is_some o ≡ false → o ≡ None
  absent None e = refl
  absent (Some m) e = absurd (true≢false e)

  -- an identity that has none yet gets an annotation
  pub added : (old new : BTreeMap Identity M) (id : Identity) (annotation : M) → is_some (get identity_cmp old id) ≡ false → Updates identity_cmp old new id (Some annotation)
      → (other : Identity) → get identity_cmp new other ≡ option_or (get identity_cmp old other) (noted other id annotation)
  added old new id annotation none updates other = updates.0 other ∙ by (is_eq (identity_cmp id other)) refl
    where
      by : (b : Bool) → is_eq (identity_cmp id other) ≡ b → cond b (Some annotation) (get identity_cmp old other) ≡ option_or (get identity_cmp old other) (cond b (Some annotation) None)
      by true is =
          let same : id ≡ other = identity_cmp-exact id other (equal_from_is_eq (identity_cmp id other) is) in
          sym (ap (λ o. option_or o (Some annotation)) (ap (get identity_cmp old) (sym same) ∙ absent (get identity_cmp old id) none))
      by false is = keep (get identity_cmp old other)
        where
          keep : (o : Option M) → o ≡ option_or o None
          keep None = refl
          keep (Some m) = refl

  -- one that has an annotation keeps it
  pub kept : (old : BTreeMap Identity M) (id : Identity) (annotation : M) → is_some (get identity_cmp old id) ≡ true
      → (other : Identity) → get identity_cmp old other ≡ option_or (get identity_cmp old other) (noted other id annotation)
  kept old id annotation some other = by (is_eq (identity_cmp id other)) refl
    where
      whole : (o : Option M) (b : Bool) → (b ≡ true → is_some o ≡ true) → o ≡ option_or o (cond b (Some annotation) None)
      whole None true there = absurd (true≢false (sym (there refl)))
      whole None false there = refl
      whole (Some m) b there = refl

      by : (b : Bool) → is_eq (identity_cmp id other) ≡ b → get identity_cmp old other ≡ option_or (get identity_cmp old other) (cond b (Some annotation) None)
      by true is =
          whole (get identity_cmp old other) true
          (λ yes. ap (λ (key : Identity). is_some (get identity_cmp old key)) (sym (identity_cmp-exact id other (equal_from_is_eq (identity_cmp id other) is))) ∙ some)
      by false is = whole (get identity_cmp old other) false (λ no. absurd (true≢false (sym no)))

  -- an identity behind the last one has none
  pub behind : (entries : List (Identity × M)) (last id : Identity) → All (λ q. is_lt (identity_cmp last q) ≡ false) (keys_of entries) → is_lt (identity_cmp last id) ≡ true → lookup (is_at (identity_cmp id)) entries ≡ None
  behind [] last id up before = refl
  behind (e ∷ entries) last id up before =
      ap (λ b. cond b (Some e.1) (lookup (is_at (identity_cmp id)) entries)) (false_from_ne_true (is_eq (identity_cmp id e.0)) other)
      ∙ behind entries last id (λ k d lt. up (suc k) d (omega (arith, lt))) before
    where
      other : is_eq (identity_cmp id e.0) ≡ true → ⊥
      other is =
          let same : id ≡ e.0 = identity_cmp-exact id e.0 (equal_from_is_eq (identity_cmp id e.0) is) in
          true≢false (sym (ap (λ own. is_lt (identity_cmp last own)) (sym same) ∙ before) ∙ up zero e.0 (omega arith))
