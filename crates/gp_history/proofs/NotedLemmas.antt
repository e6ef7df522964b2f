-- What computed rows say of an identity.
use Rattle.std.proofs.Common.{◌≡◌, Bool, true, false, cond, List, [], ◌∷◌, refl, sym, ap, ◌∙◌, Option, Some, None, unwrap_or}
use Rattle.std.specs.List.{list_any}
use Rattle.std.specs.Option.{option_or}
use Rattle.gp_base.specs.Annotated.{Annotated, Annotations}
use Rattle.gp_base.specs.Identities.{Identity, same_identity}
use Rattle.gp_base.proofs.IdentityLaws.{same_identity-is}
use Rattle.gp_machine.specs.Annotating.{annotation_of}
use Rattle.gp_machine.specs.SeenRows.{HaveDifferentIdentities}
use Rattle.gp_versions.proofs.SameLemmas.{same-exact}
use Rattle.gp_history.specs.Noted.{first_noted, first_written, written_note}
use Rattle.std.proofs.lemmas.Bool.{or_parts}

module _ {M : Type 0} (domain : Annotations M) where
  -- the first row with an identity
  pub noted_is : (id : Identity) (rows : List (Annotated M)) → unwrap_or (first_noted id rows) domain.one ≡ annotation_of domain id rows
  noted_is id [] = refl
  noted_is id (row ∷ rows) =
      ap (λ b. unwrap_or (option_or (cond b (Some row.annotation) None) (first_noted id rows)) domain.one) (sym (same_identity-is row.identity id))
      ∙ by (same_identity row.identity id) (noted_is id rows)
    where
      by : (b : Bool) → unwrap_or (first_noted id rows) domain.one ≡ annotation_of domain id rows
          → unwrap_or (option_or (cond b (Some row.annotation) None) (first_noted id rows)) domain.one ≡ cond b row.annotation (annotation_of domain id rows)
      by true others = refl
      by false others = others

  -- what a row says, by its mark and whether it has the identity
  abbrev note_by : Bool → Bool → M → Option M
  note_by mark same annotation = cond mark (cond same (Some annotation) None) None

  note_is : (id : Identity) (row : Annotated M) → written_note id row ≡ note_by row.mark (same_identity row.identity id) row.annotation
  note_is id row = ap (λ b. note_by row.mark b row.annotation) (sym (same_identity-is row.identity id))

  -- no row has the identity
  none_written : (id : Identity) (rows : List (Annotated M)) → list_any (λ row. same_identity row.identity id) rows ≡ false → first_written id rows ≡ None
  none_written id [] not = refl
  none_written id (row ∷ rows) not =
      let parts = or_parts (same_identity row.identity id) (list_any (λ row. same_identity row.identity id) rows) not in
      (λ i. option_or (note_is id row i) (none_written id rows parts.1 i))
      ∙ ap (λ b. option_or (note_by row.mark b row.annotation) None) parts.0
      ∙ by row.mark
    where
      by : (mark : Bool) → option_or (note_by mark false row.annotation) None ≡ None
      by true = refl
      by false = refl

  -- where identities differ, the first written row with an identity is the row with it
  pub written_is : (id : Identity) (rows : List (Annotated M)) → HaveDifferentIdentities rows → (annotation : M)
      → first_written id rows ≡ Some annotation → annotation_of domain id rows ≡ annotation
  written_is id [] different annotation is = absurd (cc)
  written_is id (row ∷ rows) different annotation is =
      by row.mark (same_identity row.identity id) refl
      (ap (λ o. option_or o (first_written id rows)) (sym (note_is id row)) ∙ is)
      (written_is id rows different.1 annotation)
    where
      alone : same_identity row.identity id ≡ true → first_written id rows ≡ None
      alone same =
          none_written id rows
          (ap (λ own. list_any (λ (other : Annotated M). same_identity other.identity own) rows) (sym (same-exact row.identity id same)) ∙ different.0)

      by : (mark same : Bool) → same_identity row.identity id ≡ same
          → option_or (note_by mark same row.annotation) (first_written id rows) ≡ Some annotation
          → (first_written id rows ≡ Some annotation → annotation_of domain id rows ≡ annotation)
          → cond same row.annotation (annotation_of domain id rows) ≡ annotation
      by true true at found later = cc
      by true false at found later = later found
      by false false at found later = later found
      by false true at found later = let nothing = alone at in absurd (cc)
