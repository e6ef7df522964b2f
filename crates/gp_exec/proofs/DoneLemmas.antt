-- The rows of a step are those of its last occurrence, and of live steps they are kept.
use Rattle.std.proofs.Common.{◌≡◌, ℕ, ◌+◌, ◌<◌, ◌==◌, Bool, true, false, List, [], ◌∷◌, ◌++◌, length, map, filter, take, get_or, if◌then◌else◌, refl, sym, ap, ◌∙◌, arith}
use Rattle.std.proofs.lemmas.Bool.Decides.{nat_tests}
use Rattle.std.proofs.lemmas.List.{take_more}
use Rattle.gp_algebra.specs.Plain.{no_steps, with_step}
use Rattle.gp_algebra.specs.declared.program.Step.{Step}
use Rattle.gp_exec.specs.declared.done.Done.{Done}
use Rattle.gp_exec.specs.Liveness.{KeepsLive, emptied, is_live, live_ones, steps_after}
use Rattle.gp_base.proofs.SmallLemmas.{eq_from_same}

other_number : (a b : ℕ) → (a ≡ b → ⊥) → (b == a) ≡ false
other_number a b other = grind (arith, nat_tests)

false≢true : (b : Bool) → b ≡ false → b ≡ true → ⊥
false≢true b is kept = cc

apart : (j other number : ℕ) → (other ≡ j → ⊥) → (j == number) ≡ true → (other == number) ≡ false
apart j other number not is =
    let here : number ≡ j = grind (arith, nat_tests) in
    other_number number other (λ same. not (sym same ∙ here))

module _ {R : Type 0} where
  -- ---- one step after another

  steps_after-push : (steps : List (Done R)) (done : Done R) (start : ℕ → List R) → steps_after (steps ++ done ∷ []) start ≡ with_step done.j done.rows (steps_after steps start)
  steps_after-push [] done start = refl
  steps_after-push (first ∷ steps) done start = steps_after-push steps done (with_step first.j first.rows start)

  pub steps_after-more : (steps : List (Done R)) (i : ℕ) (done : Done R) → i < length steps → done ≡ get_or steps i done →
      steps_after (take (i + 1) steps) no_steps ≡ with_step done.j done.rows (steps_after (take i steps) no_steps)
  steps_after-more steps i done within same =
      ap (λ (before : List (Done R)). steps_after before no_steps) (take_more steps i done within ∙ ap (λ (x : Done R). take i steps ++ x ∷ []) (sym same))
      ∙ steps_after-push (take i steps) done no_steps

  pub step_is_it : (steps : List (Done R)) (i : ℕ) (done : Done R) (j : ℕ) (found : List R) → i < length steps → done ≡ get_or steps i done → done.j ≡ j →
      found ≡ done.rows → found ≡ steps_after (take (i + 1) steps) no_steps j
  step_is_it steps i done j found within same here is =
      is ∙ (ap (λ (b : Bool). if b then done.rows else steps_after (take i steps) no_steps j) (sym (eq_from_same done.j j here)) ∙ sym (ap (λ (all : ℕ → List R). all j) (steps_after-more steps i done within same)))

  pub step_is_not : (steps : List (Done R)) (i : ℕ) (done : Done R) (j : ℕ) (found : List R) → i < length steps → done ≡ get_or steps i done → (done.j ≡ j → ⊥) →
      found ≡ steps_after (take i steps) no_steps j → found ≡ steps_after (take (i + 1) steps) no_steps j
  step_is_not steps i done j found within same here is =
      is ∙ (ap (λ (b : Bool). if b then done.rows else steps_after (take i steps) no_steps j) (sym (other_number done.j j here)) ∙ sym (ap (λ (all : ℕ → List R). all j) (steps_after-more steps i done within same)))

  -- ---- the steps that are held

  kept_first : (keep : ℕ → Bool) (first : Done R) (done : List (Done R)) (known others : ℕ → List R) (j : ℕ) → keep j ≡ true → known j ≡ others j →
      ((known others : ℕ → List R) → known j ≡ others j → steps_after (filter (λ step. keep step.j) done) known j ≡ steps_after done others j) → (is_kept : Bool) → keep first.j ≡ is_kept →
      steps_after (if is_kept then first ∷ filter (λ step. keep step.j) done else filter (λ step. keep step.j) done) known j ≡ steps_after (first ∷ done) others j
  kept_first keep first done known others j kept same rest true is =
      rest (with_step first.j first.rows known) (with_step first.j first.rows others) (ap (λ (rows : List R). if j == first.j then first.rows else rows) same)
  kept_first keep first done known others j kept same rest false is =
      let other = other_number first.j j (λ number. false≢true (keep j) (ap keep (sym number) ∙ is) kept) in
      rest known (with_step first.j first.rows others) (same ∙ sym (ap (λ (b : Bool). if b then first.rows else others j) other))

  kept_same : (keep : ℕ → Bool) (done : List (Done R)) (known others : ℕ → List R) (j : ℕ) → keep j ≡ true → known j ≡ others j →
      steps_after (filter (λ step. keep step.j) done) known j ≡ steps_after done others j
  kept_same keep [] known others j kept same = same
  kept_same keep (first ∷ done) known others j kept same =
      kept_first keep first done known others j kept same (λ known others same. kept_same keep done known others j kept same) (keep first.j) refl

  -- those that are live after a step, where those before have kept their rows
  pub held_live : {Q : Type 0} (reads : ℕ → Q → Bool) (later : List (Step Q)) (last : Q) (before : ℕ → List R) (held : List (Done R)) (done : Done R) →
      KeepsLive reads later last before (steps_after held no_steps) →
      KeepsLive reads later last (with_step done.j done.rows before) (steps_after (live_ones reads later last (held ++ done ∷ [])) no_steps)
  held_live reads later last before held done keeps j live =
      kept_same (is_live reads later last) (held ++ done ∷ []) no_steps no_steps j live refl
      ∙ (ap (λ (all : ℕ → List R). all j) (steps_after-push held done no_steps)
      ∙ ap (λ (found : List R). if j == done.j then done.rows else found) (keeps j live))

  -- ---- a step whose rows are taken out

  emptied_here : (j other : ℕ) (done : Done R) (known others : ℕ → List R) → (other ≡ j → ⊥) → known other ≡ others other → (is_it : Bool) → (j == done.j) ≡ is_it →
      (let left : Done R = if is_it then record { j = done.j; rows = [] } else done in with_step left.j left.rows known other) ≡ with_step done.j done.rows others other
  emptied_here j other done known others not same true is =
      ap (λ (b : Bool). if b then [] else known other) (apart j other done.j not is)
      ∙ (same ∙ sym (ap (λ (b : Bool). if b then done.rows else others other) (apart j other done.j not is)))
  emptied_here j other done known others not same false is = ap (λ (rows : List R). if other == done.j then done.rows else rows) same

  pub emptied_others : (j other : ℕ) (done : List (Done R)) (known others : ℕ → List R) → (other ≡ j → ⊥) → known other ≡ others other →
      steps_after (map (emptied j) done) known other ≡ steps_after done others other
  emptied_others j other [] known others not same = same
  emptied_others j other (first ∷ done) known others not same =
      emptied_others j other done (with_step (emptied j first).j (emptied j first).rows known) (with_step first.j first.rows others) not (emptied_here j other first known others not same (j == first.j) refl)
