-- The rows of a version have different identities, where those of its spans have.
use Rattle.std.proofs.Common.{◌≡◌, ℕ, ◌-◌, ◌<◌, ◌≤◌, Bool, true, false, List, [], ◌∷◌, map, refl, sym, ◌∙◌, arith}
use Rattle.std.specs.List.{AllByRecursion}
use Rattle.std.proofs.lemmas.Bool.{false≢true}
use Rattle.gp_base.proofs.SmallLemmas.{each_map}
use Rattle.gp_base.specs.Annotated.{Annotated, unannotated}
use Rattle.gp_base.specs.Identities.{Identity, same_identity}
use Rattle.gp_algebra.specs.Reannotation.{forgotten, reannotated}
use Rattle.gp_machine.proofs.Distinct.{none_any, none_each}
use Rattle.gp_machine.specs.SeenRows.{HaveDifferentIdentities, same_row}
use Rattle.gp_versions.proofs.SameLemmas.{same-sym}
use Rattle.gp_versions.specs.declared.span.Span.{Span}
use Rattle.gp_versions.specs.Spans.{row_of}
use Rattle.gp_versions.specs.TableSpans.{AreOfDifferentRows}

turned : (id other : Identity) (b : Bool) → same_identity other id ≡ b → same_identity id other ≡ false → b ≡ false
turned id other false is differ = refl
turned id other true is differ = absurd (false≢true (sym differ ∙ same-sym other id is))

pub different-spans : (spans : List Span) → AreOfDifferentRows spans → HaveDifferentIdentities (map (row_of unannotated) spans)
different-spans [] different = tt
different-spans (span ∷ spans) different = (
  none_any (λ other. same_row other (row_of unannotated span)) (map (row_of unannotated) spans)
      (each_map (λ other. same_row other (row_of unannotated span) ≡ false) (λ (other : Span). same_identity span.id other.id ≡ false) (row_of unannotated)
      (λ other differ. turned span.id other.id (same_identity other.id span.id) refl differ) spans different.0),
  different-spans spans different.1,
)

module _ {M : Type 0} where
  each-unmapped : (row : Annotated M) (rows : List (Annotated M)) → AllByRecursion (λ other. same_row other (reannotated forgotten row) ≡ false) (map (reannotated forgotten) rows)
      → AllByRecursion (λ other. same_row other row ≡ false) rows
  each-unmapped row [] all = tt
  each-unmapped row (other ∷ rows) all = (all.0, each-unmapped row rows all.1)

  pub different-unmapped : (rows : List (Annotated M)) → HaveDifferentIdentities (map (reannotated forgotten) rows) → HaveDifferentIdentities rows
  different-unmapped [] different = tt
  different-unmapped (row ∷ rows) different = (
    none_any (λ other. same_row other row) rows
        (each-unmapped row rows (none_each (λ other. same_row other (reannotated forgotten row)) (map (reannotated forgotten) rows) different.0)),
    different-unmapped rows different.1,
  )
