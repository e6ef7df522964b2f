-- Part of the statement: rows that were exported under titles load again: whatever script is made of the sheet of their text loads it.
use Rattle.std.specs.Prelude.{◌≡◌, ℕ, true, List, Ok}
use Rattle.gp_base.specs.declared.cell.Cell.{Cell}
use Rattle.gp_base.specs.Names.{is_name}
use Rattle.gp_csv.specs.Titled.{IsReadAgain}
use Rattle.gp_csv.specs.Scripts.{script_of}
use Rattle.gp_load.specs.Loading.{Loads}

pub record LoadsAgain (number : ℕ) (titles : List (List ℕ)) (rows : List (List Cell)) (bytes : List ℕ) : Type 0 where
  pub read : IsReadAgain number titles rows bytes
  pub loads : (name script : List ℕ) → is_name name ≡ true → script_of name read.sheet ≡ Ok script → Loads name read.sheet script
