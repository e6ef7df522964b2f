-- Of the contract of `Backend::run_past`: what a program gives over the rows of one table in one version, where they lie.
use Rattle.std.specs.Prelude.{◌≡◌, ◌<◌, ◌≤◌, ◌==◌, ◌&&◌, Bool, false, List, [], ◌∷◌, ◌++◌, filter, length, map, Option, Some, None, Result, Ok, Err, if◌then◌else◌}
use Rattle.std.specs.List.{list_all}
use Rattle.std.specs.Option.{option_map}
use Rattle.gp_base.specs.declared.cell.Cell.{Cell}
use Rattle.gp_base.specs.declared.cell.Cell.TheVariants as cell
use Rattle.gp_base.specs.declared.limit.TheConstants.{MAX_ANSWER_ROWS}
use Rattle.gp_expr.specs.Expressions.{Expr}
use Rattle.gp_expr.specs.ExpressionForms.{is_simple}
use Rattle.gp_expr.specs.Values.{passes}
use Rattle.gp_algebra.specs.declared.plain.ScanAt.{ScanAt}
use Rattle.gp_algebra.specs.Answers.{values}
use Rattle.gp_algebra.specs.Plain.{Plain, PlainEnvironment, PlainProgram, PlainStep, project, scan, select}
use Rattle.gp_exec.specs.declared.error.ExecStop.{ExecStop}
use Rattle.gp_exec.specs.declared.error.ExecStop.TheVariants as exec
use Rattle.gp_exec.specs.declared.past_rows.PastRow.{PastRow}
use Rattle.gp_exec.specs.Backends.{Given}

-- what programs see of it: its identity and the mark NO are behind its cells
abbrev pub past_row : PastRow → List Cell
past_row row = row.row.now ++ (cell.Id row.id.now ∷ cell.Mark false ∷ [])

-- a result is one that is given; that there is none says nothing, as running out of memory
abbrev pub IsGivenIfSome : {X : Type 0} → (X → List (List Cell)) → (PlainProgram → PlainEnvironment → Given → Type 0) → Result (Option X) ExecStop → PlainProgram → PlainEnvironment → Type 0
IsGivenIfSome view gives (Ok (Some found)) program env = gives program env (Ok (view found))
IsGivenIfSome view gives (Ok None) program env = Unit {0}
IsGivenIfSome view gives (Err (exec.Rows j)) program env = gives program env (Err (exec.Rows j))
IsGivenIfSome view gives (Err (exec.Ancestry j)) program env = gives program env (Err (exec.Ancestry j))
IsGivenIfSome view gives (Err exec.Answer) program env = gives program env (Err exec.Answer)
IsGivenIfSome view gives (Err exec.NoMemory) program env = Unit {0}

-- ---- the programs that are run so

abbrev pub is_scan_of : ScanAt → Plain → Bool
is_scan_of at (scan table version) = (at.version == version) && (at.table == table)
is_scan_of at query = false

-- the rows of a query over those of this scan, or none for other queries
abbrev pub found_in : ScanAt → List (List Cell) → Plain → Option (List (List Cell))
found_in at rows (scan table version) = if is_scan_of at (scan table version) then Some rows else None
found_in at rows (select query c) = if is_scan_of at query then Some (filter (passes c) rows) else None
found_in at rows query = None

abbrev pub projected_in : ScanAt → List (List Cell) → Plain → List Expr → Option (List (List Cell))
projected_in at rows query exprs = if list_all is_simple exprs then option_map (map (values exprs)) (found_in at rows query) else None

abbrev pub last_in : ScanAt → List (List Cell) → Plain → Option (List (List Cell))
last_in at rows (project query exprs) = projected_in at rows query exprs
last_in at rows query = None

abbrev pub after_steps : List PlainStep → Option (List (List Cell)) → Option (List (List Cell))
after_steps [] rows = rows
after_steps (first ∷ others) rows = None

abbrev pub run_in : ScanAt → List (List Cell) → PlainProgram → Option (List (List Cell))
run_in at rows program = after_steps program.steps (last_in at rows program.last)

-- these rows, unless they are too many
abbrev pub Runs : {X : Type 0} → (X → List (List Cell)) → Result (Option X) ExecStop → Option (List (List Cell)) → Type 0
Runs view (Ok (Some found)) (Some rows) = (view found ≡ rows) × (length rows ≤ MAX_ANSWER_ROWS)
Runs view (Ok (Some found)) None = ⊥
Runs view (Ok None) expected = Unit {0}
Runs view (Err exec.Answer) (Some rows) = MAX_ANSWER_ROWS < length rows
Runs view (Err exec.Answer) None = ⊥
Runs view (Err (exec.Rows j)) expected = ⊥
Runs view (Err (exec.Ancestry j)) expected = ⊥
Runs view (Err exec.NoMemory) expected = Unit {0}
