-- The executor as a backend.
use Rattle.std.proofs.Common.{◌≡◌, ℕ, Bool, true, false, cond, List, [], ◌∷◌, length, refl, ap, ◌∙◌, Option, Some, None, Result, Ok, Err}
use Rattle.std.specs.Prelude.{◌||◌, ◌==◌, nat_lt, not}
use Rattle.std.specs.List.{list_any}
use Rattle.std.proofs.lemmas.Bool.{eq-eqb}
use Rattle.std.proofs.lemmas.List.Sorted.{list_any-IsPermutation}
use Rattle.gp_base.specs.declared.cell.Cell.{Cell}
use Rattle.gp_base.specs.declared.row_id.TheConstants.{MAX_NODES}
use Rattle.gp_base.specs.UserCells.{is_user_cell}
use Rattle.gp_expr.specs.LargeValues.{is_large}
use Rattle.gp_algebra.specs.Plain.{PlainEnvironment, PlainProgram, PlainStep, StepRows, meaning, no_steps, program_meaning, with_step}
use Rattle.gp_algebra.specs.Stops as stops
use Rattle.gp_algebra.specs.Stops.{Stop, first_stop, stop_at, steps_stop}
use Rattle.gp_algebra.specs.Stops.{is_insert}
use Rattle.gp_algebra.specs.WellBuilt.{is_among}
use Rattle.gp_exec.specs.declared.env.Env.{Env}
use Rattle.gp_exec.specs.declared.error.ExecStop.{ExecStop}
use Rattle.gp_exec.specs.declared.error.ExecStop.TheVariants as exec
use Rattle.gp_base.specs.declared.limit.TheConstants.{MAX_TABLE_ROWS}
use Rattle.gp_exec.specs.Backends.{KeepsUserCells, StopsAtStep, step_numbers}
use Rattle.gp_exec.specs.Running.{Runs, environment_view}

-- the step of a stop
abbrev stop_number : Stop → ℕ
stop_number (stops.rows j) = j
stop_number (stops.ancestry j) = j

module _ (most_rows most_nodes : ℕ) (env : PlainEnvironment) where
  own_number : (s : PlainStep) (insert many large : Bool) (stop : Stop)
      → cond insert (cond many (Some (stops.rows s.j)) (cond large (Some (stops.ancestry s.j)) None)) None ≡ Some stop → s.j ≡ stop_number stop
  own_number s true true large stop is = ap number_of is
    where
      number_of : Option Stop → ℕ
      number_of (Some stop) = stop_number stop
      number_of None = s.j
  own_number s true false true stop is = ap number_of is
    where
      number_of : Option Stop → ℕ
      number_of (Some stop) = stop_number stop
      number_of None = s.j
  own_number s true false false stop is = absurd (cc)
  own_number s false many large stop is = absurd (cc)

  stop_among : (steps : List PlainStep) (held : StepRows) (stop : Stop) → steps_stop most_rows most_nodes env steps held ≡ Some stop
      → is_among (step_numbers steps) (stop_number stop) ≡ true
  stop_among [] held stop is = absurd (cc)
  stop_among (s ∷ steps) held stop is =
      go (stop_among steps (with_step s.j (meaning held env s.query) held) stop) (stop_at most_rows most_nodes s (meaning held env s.query)) refl is
    where
      later : Option Stop
      later = steps_stop most_rows most_nodes env steps (with_step s.j (meaning held env s.query) held)

      right : (b : Bool) → is_among (step_numbers steps) (stop_number stop) ≡ true → (b || is_among (step_numbers steps) (stop_number stop)) ≡ true
      right true e = refl
      right false e = e

      go : (later ≡ Some stop → is_among (step_numbers steps) (stop_number stop) ≡ true)
          → (own : Option Stop) → stop_at most_rows most_nodes s (meaning held env s.query) ≡ own → first_stop own later ≡ Some stop
          → ((s.j == stop_number stop) || is_among (step_numbers steps) (stop_number stop)) ≡ true
      go rest (Some own) here is =
          ap (λ b. b || is_among (step_numbers steps) (stop_number stop))
          (eq-eqb s.j (stop_number stop)
          (own_number s (is_insert s.query) (nat_lt most_rows (length (meaning held env s.query))) (list_any (list_any (is_large most_nodes)) (meaning held env s.query)) stop (here ∙ is)))
      go rest None here is = right (s.j == stop_number stop) (rest is)

module _ {X : Type 0} (view : X → List (List Cell)) (env : Env) (program : PlainProgram) where
  pub keeps_user_cells : (result : Result X ExecStop) → Runs view result env program → KeepsUserCells view result program (environment_view env)
  keeps_user_cells (Ok found) runs = λ none.
      list_any-IsPermutation (list_any (λ cell. not (is_user_cell cell))) (view found) (program_meaning (environment_view env) program) runs.1.0 ∙ none
  keeps_user_cells (Err stop) runs = tt

  pub stops_at_step : (result : Result X ExecStop) → Runs view result env program → StopsAtStep result program
  stops_at_step (Ok found) runs = tt
  stops_at_step (Err (exec.Rows j)) runs = stop_among MAX_TABLE_ROWS MAX_NODES (environment_view env) program.steps no_steps (stops.rows j) runs
  stops_at_step (Err (exec.Ancestry j)) runs = stop_among MAX_TABLE_ROWS MAX_NODES (environment_view env) program.steps no_steps (stops.ancestry j) runs
  stops_at_step (Err exec.Answer) runs = tt
  stops_at_step (Err exec.NoMemory) runs = tt
