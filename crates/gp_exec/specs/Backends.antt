-- Of the contract of a `Backend`: what is asked of a backend, and what the executor gives as one.
use Rattle.std.specs.Prelude.{◌≡◌, ◌<◌, ◌≤◌, ℕ, Bool, true, false, not, List, length, map, None, Some, Result, Ok, Err}
use Rattle.std.specs.List.{list_any}
use Rattle.std.specs.List.Sorted.{IsPermutation}
use Rattle.gp_base.specs.declared.cell.Cell.{Cell}
use Rattle.gp_base.specs.declared.row_id.TheConstants.{MAX_NODES}
use Rattle.gp_base.specs.UserCells.{is_user_cell}
use Rattle.gp_algebra.specs.Plain.{PlainEnvironment, PlainProgram, PlainStep, program_meaning}
use Rattle.gp_algebra.specs.Stops as stops
use Rattle.gp_algebra.specs.Stops.{program_stop}
use Rattle.gp_algebra.specs.WellBuilt.{is_among}
use Rattle.gp_exec.specs.declared.error.ExecStop.{ExecStop}
use Rattle.gp_exec.specs.declared.error.ExecStop.TheVariants.{Rows, Ancestry, Answer, NoMemory}
use Rattle.gp_base.specs.declared.limit.TheConstants.{MAX_TABLE_ROWS, MAX_ANSWER_ROWS}

-- the rows of a program, or the reason why there are none
abbrev pub Given : Type 0
Given = Result (List (List Cell)) ExecStop

-- a result is one that is given; running out of memory says nothing
abbrev pub IsGiven : {X : Type 0} → (X → List (List Cell)) → (PlainProgram → PlainEnvironment → Given → Type 0) → Result X ExecStop → PlainProgram → PlainEnvironment → Type 0
IsGiven view gives (Ok found) program env = gives program env (Ok (view found))
IsGiven view gives (Err (Rows j)) program env = gives program env (Err (Rows j))
IsGiven view gives (Err (Ancestry j)) program env = gives program env (Err (Ancestry j))
IsGiven view gives (Err Answer) program env = gives program env (Err Answer)
IsGiven view gives (Err NoMemory) program env = Unit {0}

-- a cell that no table holds: an identity, a mark or a monomial, or one out of range
abbrev pub has_other_cells : List (List Cell) → Bool
has_other_cells rows = list_any (list_any (λ cell. not (is_user_cell cell))) rows

-- the rows hold user cells alone where those of the program do
abbrev pub KeepsUserCells : {X : Type 0} → (X → List (List Cell)) → Result X ExecStop → PlainProgram → PlainEnvironment → Type 0
KeepsUserCells view (Ok found) program env = has_other_cells (program_meaning env program) ≡ false → has_other_cells (view found) ≡ false
KeepsUserCells view (Err stop) program env = Unit {0}

abbrev pub step_numbers : List PlainStep → List ℕ
step_numbers steps = map (λ (s : PlainStep). s.j) steps

-- a stop is at a step of the program
abbrev pub StopsAtStep : {X : Type 0} → Result X ExecStop → PlainProgram → Type 0
StopsAtStep (Err (Rows j)) program = is_among (step_numbers program.steps) j ≡ true
StopsAtStep (Err (Ancestry j)) program = is_among (step_numbers program.steps) j ≡ true
StopsAtStep _ program = Unit {0}

-- what the executor gives: the rows of the program as a bag, unless one of its steps stops or they are too many
abbrev pub Executes : PlainProgram → PlainEnvironment → Given → Type 0
Executes program env (Ok found) =
    (program_stop MAX_TABLE_ROWS MAX_NODES env program ≡ None)
    × (IsPermutation found (program_meaning env program) × (length (program_meaning env program) ≤ MAX_ANSWER_ROWS))
Executes program env (Err (Rows j)) = program_stop MAX_TABLE_ROWS MAX_NODES env program ≡ Some (stops.rows j)
Executes program env (Err (Ancestry j)) = program_stop MAX_TABLE_ROWS MAX_NODES env program ≡ Some (stops.ancestry j)
Executes program env (Err Answer) =
    (program_stop MAX_TABLE_ROWS MAX_NODES env program ≡ None) × (MAX_ANSWER_ROWS < length (program_meaning env program))
Executes program env (Err NoMemory) = Unit {0}
