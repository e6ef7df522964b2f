-- Of the contract of `Fixed`: a backend that gives the same rows for every program.
use Rattle.std.specs.Prelude.{◌≡◌, List, [], ◌∷◌, Ok, pos}
use Rattle.gp_base.specs.declared.cell.Cell.{Cell}
use Rattle.gp_base.specs.declared.cell.Cell.TheVariants.{Int}
use Rattle.gp_algebra.specs.Plain.{PlainEnvironment, PlainProgram}
use Rattle.gp_exec.specs.Backends.{Given}

abbrev pub two_rows : List (List Cell)
two_rows = (Int (pos 7) ∷ []) ∷ (Int (pos 3) ∷ []) ∷ []

abbrev pub GivesTwoRows : PlainProgram → PlainEnvironment → Given → Type 0
GivesTwoRows program env answer = answer ≡ Ok two_rows
