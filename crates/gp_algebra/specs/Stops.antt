-- Of the contract of `run` (gp_exec) and of the law `programs_respect_bags`: where a plain program stops. Only the rows of its INSERT steps decide, so neither
-- the order of evaluation nor a rewriting with the same rows changes it.
use Rattle.std.specs.Prelude.{ℕ, nat_lt, Bool, true, false, List, [], ◌∷◌, length, Option, Some, None, if◌then◌else◌}
use Rattle.std.specs.List.{list_any}
use Rattle.gp_base.specs.declared.cell.Cell.{Cell}
use Rattle.gp_expr.specs.LargeValues.{is_large}
use Rattle.gp_algebra.specs.Plain.{Plain, PlainStep, PlainProgram, PlainEnvironment, StepRows, meaning, no_steps, union, with_step}

-- an INSERT step appends to its table
abbrev pub is_insert : Plain → Bool
is_insert (union left right) = true
is_insert _ = false

-- the step with this number leaves too many rows, or has an identity of too many nodes
pub data Stop : Type 0 where
  rows : ℕ → Stop
  ancestry : ℕ → Stop

abbrev pub first_stop : Option Stop → Option Stop → Option Stop
first_stop (Some stop) later = Some stop
first_stop None later = later

module _ (most_rows most_nodes : ℕ) where
  abbrev pub stop_at : PlainStep → List (List Cell) → Option Stop
  stop_at s contents =
      if is_insert s.query then
      (if nat_lt most_rows (length contents) then Some (rows s.j) else if list_any (list_any (is_large most_nodes)) contents then Some (ancestry s.j) else None)
      else None

  -- the first stop of these steps
  abbrev pub steps_stop : PlainEnvironment → List PlainStep → StepRows → Option Stop
  steps_stop env [] steps = None
  steps_stop env (first ∷ others) steps =
      first_stop (stop_at first (meaning steps env first.query)) (steps_stop env others (with_step first.j (meaning steps env first.query) steps))

  abbrev pub program_stop : PlainEnvironment → PlainProgram → Option Stop
  program_stop env program = steps_stop env program.steps no_steps
