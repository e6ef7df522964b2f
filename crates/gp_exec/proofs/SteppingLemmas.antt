-- The rows of steps that are not live decide nothing, and the first step that stops decides.
use Rattle.std.proofs.Common.{◌≡◌, ℕ, ◌==◌, Bool, true, false, ◌||◌, List, [], ◌∷◌, Option, None, if◌then◌else◌, refl, sym, ap, ◌∙◌}
use Rattle.std.specs.List.{list_any}
use Rattle.gp_algebra.specs.Plain.{with_step}
use Rattle.gp_algebra.specs.Stops.{Stop, first_stop}
use Rattle.gp_algebra.specs.declared.program.Step.{Step}
use Rattle.gp_exec.specs.declared.error.ExecStop.{ExecStop}
use Rattle.gp_exec.specs.declared.error.ExecStop.TheVariants.{Rows, Ancestry, Answer, NoMemory}
use Rattle.gp_exec.specs.Liveness.{KeepsLive}
use Rattle.gp_exec.specs.Stepping.{Outcome, ReportsStop, stopped}
use Rattle.std.proofs.lemmas.Bool.{or_left}

live_later : (here later last : Bool) → (later || last) ≡ true → ((here || later) || last) ≡ true
live_later true later last live = refl
live_later false later last live = live

-- a program stops where its first step does
pub reports_first : (error : ExecStop) (here later : Option Stop) → ReportsStop error here → ReportsStop error (first_stop here later)
reports_first (Rows j) here later is = ap (λ (stop : Option Stop). first_stop stop later) is
reports_first (Ancestry j) here later is = ap (λ (stop : Option Stop). first_stop stop later) is
reports_first Answer here later is = is
reports_first NoMemory here later is = tt

-- the rows of a step, as contracts see them
pub seen_with : {R S : Type 0} (seen : List R → List S) (is_it : Bool) (here before : List R) (meant : List S) → seen here ≡ meant →
    seen (if is_it then here else before) ≡ (if is_it then meant else seen before)
seen_with seen true here before meant is = is
seen_with seen false here before meant is = refl

module _ {Q R : Type 0} (reads : ℕ → Q → Bool) (means : (ℕ → List R) → Q → List R) (stop_at : Step Q → List R → Option Stop)
    (outcome : List (Step Q) → Q → (ℕ → List R) → Outcome R)
    (agrees : (query : Q) (known others : ℕ → List R) → ((j : ℕ) → reads j query ≡ true → known j ≡ others j) → means known query ≡ means others query)
    (ends : (last : Q) (known : ℕ → List R) → outcome [] last known ≡ record { stop = None; rows = means known last })
    (goes_on : (first : Step Q) (others : List (Step Q)) (last : Q) (known : ℕ → List R) →
    outcome (first ∷ others) last known ≡ stopped (stop_at first (means known first.query)) (outcome others last (with_step first.j (means known first.query) known))) where
  -- the rest of a program over the same rows of the live steps
  rest_agrees : (steps : List (Step Q)) (last : Q) (old new : ℕ → List R) → KeepsLive reads steps last old new → outcome steps last new ≡ outcome steps last old
  rest_agrees [] last old new keeps = ends last new ∙ (ap (λ (rows : List R). record { stop = None; rows = rows }) (agrees last new old keeps) ∙ sym (ends last old))
  rest_agrees (first ∷ steps) last old new keeps =
      let any = λ (j : ℕ). list_any (λ (s : Step Q). reads j s.query) steps in
      let was = means old first.query in
      let is = means new first.query in
      let here : is ≡ was =
      agrees first.query new old (λ j read. keeps j (or_left (reads j first.query || any j) (reads j last) (or_left (reads j first.query) (any j) read))) in
      let later : KeepsLive reads steps last (with_step first.j was old) (with_step first.j is new) =
      λ j live. ap (λ (rows : List R). if j == first.j then rows else new j) here
      ∙ ap (λ (rows : List R). if j == first.j then was else rows) (keeps j (live_later (reads j first.query) (any j) (reads j last) live)) in
      goes_on first steps last new
      ∙ (ap (λ (rows : List R). stopped (stop_at first rows) (outcome steps last (with_step first.j is new))) here
      ∙ (ap (stopped (stop_at first was)) (rest_agrees steps last (with_step first.j was old) (with_step first.j is new) later)
      ∙ sym (goes_on first steps last old)))

  -- a step that does not stop, and the steps after it
  pub rest_after : (step : Step Q) (steps : List (Step Q)) (last : Q) (old new : ℕ → List R) → stop_at step (means old step.query) ≡ None →
      KeepsLive reads steps last (with_step step.j (means old step.query) old) new → outcome steps last new ≡ outcome (step ∷ steps) last old
  rest_after step steps last old new passes keeps =
      let after = with_step step.j (means old step.query) old in
      rest_agrees steps last after new keeps ∙ (ap (λ (stop : Option Stop). stopped stop (outcome steps last after)) (sym passes) ∙ sym (goes_on step steps last old))

  -- a step that stops the program
  pub stops_here : (error : ExecStop) (step : Step Q) (steps : List (Step Q)) (last : Q) (old : ℕ → List R) → ReportsStop error (stop_at step (means old step.query)) →
      ReportsStop error (outcome (step ∷ steps) last old).stop
  stops_here error step steps last old reports =
      let later = (outcome steps last (with_step step.j (means old step.query) old)).stop in
      rw (goes_on step steps last old) (reports_first error (stop_at step (means old step.query)) later reports)
