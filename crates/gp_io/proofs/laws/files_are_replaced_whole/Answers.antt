use Rattle.std.proofs.Common.{◌≡◌, ◌≢◌, ℕ, ◌+◌, Bool, true, false, List, [], ◌∷◌, ◌++◌, length, length-append, None, codes, bytes_eq, refl, sym, ap, subst, ◌∙◌, inl, inr, arith}
use Rattle.std.proofs.lemmas.List.{append_cancel_left, append-nil}
use Rattle.std.proofs.lemmas.Slice.Eq.{bytes_eq-Decides}
use Rattle.gp_io.specs.Contents.{Contents, HaveSame}
use Rattle.gp_io.specs.Moments.{AllBut, AllButTwo, AtEachMoment, AtTheEnd, IsNew, IsOld, IsOldOrNew, Leaves}
use Rattle.gp_io.specs.Steps.{Step}
use Rattle.gp_io.specs.Whole.{IsBeside, IsRemoval, IsSync}
use Rattle.gp_io.proofs.laws.files_are_replaced_whole.Goals as goal

-- a name that goes on is another one
longer : (target suffix : List ℕ) → target ≢ (target ++ codes ".new") ++ suffix
longer target suffix same =
    let lengths : length target ≡ length target + 4 + length suffix = ap length same ∙ length-append (target ++ codes ".new") suffix ∙ ap (λ (n : ℕ). n + length suffix) (length-append target (codes ".new")) in
    absurd (omega arith)

apart : (target temporary : List ℕ) → IsBeside target temporary → target ≢ temporary
apart target temporary beside same = longer target beside.0 (same ∙ beside.1)

-- of the temporary file nothing is left, whichever name is asked
others : (target temporary other : List ℕ) (old stored new : Contents) → old temporary ≡ None → AllBut temporary old stored → new temporary ≡ None
    → AllButTwo temporary target stored new → other ≢ target → (same : Bool) → bytes_eq other temporary ≡ same → new other ≡ old other
others target temporary other old stored new none kept gone rest differs true is =
    let same : other ≡ temporary = (bytes_eq-Decides other temporary).0 is in
    ap new same ∙ gone ∙ sym none ∙ ap old (sym same)
others target temporary other old stored new none kept gone rest differs false is =
    let no : other ≢ temporary = λ same. let both : true ≡ false = sym ((bytes_eq-Decides other temporary).1 same) ∙ is in cc in
    rest other no differs ∙ kept other no

-- a sync changes no file
at_sync : (target : List ℕ) (last : Step) (old new : Contents) → IsSync target last → Leaves last old new → HaveSame old new
at_sync target last old new is left =
    elim is [
      | inl done ↦ subst (λ (step : Step). Leaves step old new) done left
      | inr kept ↦ subst (λ (step : Step). Leaves step old new) kept left
    ]

at_removal : (target temporary : List ℕ) (removal : Step) (old files : Contents) → target ≢ temporary → IsRemoval temporary removal → IsOld target temporary old files
    → AtEachMoment (IsOld target temporary old) (removal ∷ []) files
at_removal target temporary removal old files differs is has =
    elim is [
      | inl done ↦ subst (λ (step : Step). AtEachMoment (IsOld target temporary old) (step ∷ []) files) (sym done)
          (has, λ next left. (left.1 target differs ∙ has.0, λ other no also. left.1 other no ∙ has.1 other no also))
      | inr kept ↦ subst (λ (step : Step). AtEachMoment (IsOld target temporary old) (step ∷ []) files) (sym kept)
          (has, λ next left. (left target ∙ has.0, λ other no also. left other ∙ has.1 other no also))
    ]

pub returns-clause-new : goal.returns-clause-new
returns-clause-new c = λ target mode bytes last before steps old done syncs.
    let temporary = done.0 in
    subst (λ (these : List Step). AtTheEnd (IsNew target bytes old) these old) (sym (append_cancel_left before steps _ done.2)) (λ stored stores after renames next left.
    let same : HaveSame after next = at_sync target last after next syncs left in (
      same target ∙ renames.0 ∙ stores.1,
      λ other differs. same other ∙ others target temporary other old stored after stores.0 stores.2 renames.1 renames.2 differs (bytes_eq other temporary) refl,
    ))

pub returns-clause-whole : goal.returns-clause-whole
returns-clause-whole c = λ target mode bytes last before steps old done syncs.
    let temporary = done.0 in
    let differs : target ≢ temporary = apart target temporary done.1 in (
      temporary,
      done.1,
      subst (λ (these : List Step). AtEachMoment (IsOldOrNew target temporary bytes old) these old) (sym (append_cancel_left before steps _ done.2)) (
        (inl refl, λ other no also. refl),
        λ stored stores. (
          (inl (stores.2 target differs), λ other no also. stores.2 other no),
          λ after renames. (
            (inr (renames.0 ∙ stores.1), λ other no also. renames.2 other no also ∙ stores.2 other no),
            λ next left.
                let same : HaveSame after next = at_sync target last after next syncs left in
                (inr (same target ∙ renames.0 ∙ stores.1), λ other no also. same other ∙ renames.2 other no also ∙ stores.2 other no),
          ),
        ),
      ),
    )

pub returns-clause-old : goal.returns-clause-old
returns-clause-old c = λ target mode bytes before steps old left.
    elim left [
      | inl none ↦
          let temporary : List ℕ = (target ++ codes ".new") ++ [] in (
            temporary,
            ([], refl),
            subst (λ (these : List Step). AtEachMoment (IsOld target temporary old) these old) (sym (append_cancel_left before steps [] (none ∙ sym (append-nil before))))
                (refl, λ other no also. refl),
          )
      | inr made ↦
          let (temporary, removal, beside, removes, ends) = made in
          let differs : target ≢ temporary = apart target temporary beside in
          elim ends [
            | inl broken ↦ (
              temporary,
              beside,
              subst (λ (these : List Step). AtEachMoment (IsOld target temporary old) these old) (sym (append_cancel_left before steps _ broken))
                  ((refl, λ other no also. refl), λ stored stores. at_removal target temporary removal old stored differs removes (stores.1 target differs, λ other no also. stores.1 other no)),
            )
            | inr stayed ↦ (
              temporary,
              beside,
              subst (λ (these : List Step). AtEachMoment (IsOld target temporary old) these old) (sym (append_cancel_left before steps _ stayed)) (
                (refl, λ other no also. refl),
                λ stored stores. (
                  (stores.2 target differs, λ other no also. stores.2 other no),
                  λ next renames. at_removal target temporary removal old next differs removes
                      (renames target ∙ stores.2 target differs, λ other no also. renames other ∙ stores.2 other no),
                ),
              ),
            )
          ]
    ]
