-- What every line of a script keeps holds after all of them.
use Rattle.gp_dump.proofs.Prelude.{◌≡◌, ℕ, zero, List, [], ◌∷◌, ◌++◌, refl, sym, subst, Annotations, Line, after, line_event, Parameters, State, start, AreScriptLines, IsLineAfter}
use Rattle.gp_log.specs.ScriptLines.{AreLinesAfter}

module _ {M : Type 0} (domain : Annotations M) (parameters : Parameters) where
  after_more : (state : State M) (done : List Line) (line : Line) → after domain parameters state (done ++ line ∷ []) ≡ (line_event domain parameters (after domain parameters state done) line).0
  after_more state [] line = refl
  after_more state (one ∷ done) line = after_more (line_event domain parameters state one).0 done line

  module _ (Holds : ℕ → State M → Type 0)
      (keeps : (done : List Line) (last : ℕ) (line : Line) → IsLineAfter last line → Holds last (after domain parameters start done) → Holds line.number (line_event domain parameters (after domain parameters start done) line).0) where
    from : (done : List Line) (last : ℕ) (lines : List Line) → AreLinesAfter last lines → Holds last (after domain parameters start done) → (newest : ℕ) × Holds newest (after domain parameters (after domain parameters start done) lines)
    from done last [] are h = (last, h)
    from done last (line ∷ lines) are h =
        subst (λ state. (newest : ℕ) × Holds newest (after domain parameters state lines)) (after_more start done line)
        (from (done ++ line ∷ []) line.number lines are.1 (subst (Holds line.number) (sym (after_more start done line)) (keeps done last line are.0 h)))

    pub along : (lines : List Line) → AreScriptLines lines → Holds zero start → (newest : ℕ) × Holds newest (after domain parameters start lines)
    along lines are h = from [] zero lines are h
