-- Of the contract of `remaining` and of the law `counted_rows_remain`: rows as often as they are counted.
use Rattle.std.specs.Prelude.{◌≡◌, ◌<◌, ◌≤◌, ℕ, ◌+◌, List, [], ◌∷◌, ◌++◌, replicate, Result, Ok, Err}
use Rattle.gp_base.specs.declared.cell.Cell.{Cell}
use Rattle.gp_base.specs.declared.limit.TheConstants.{MAX_ANSWER_ROWS}
use Rattle.gp_kexec.specs.declared.error.RemainStop.{RemainStop}
use Rattle.gp_kexec.specs.declared.error.RemainStop.TheVariants.{NoMemory, TooMany}

-- each row as often as its number
abbrev pub repeated : {X : Type 0} → List (X × ℕ) → List X
repeated [] = []
repeated (pair ∷ pairs) = replicate pair.1 pair.0 ++ repeated pairs

-- the sum of the numbers
abbrev pub number_of : {X : Type 0} → List (X × ℕ) → ℕ
number_of [] = 0
number_of (pair ∷ pairs) = pair.1 + number_of pairs

-- those rows, unless there are too many; running out of memory says nothing
abbrev pub Remains : {X : Type 0} → (X → List (List Cell)) → Result X RemainStop → List (List Cell × ℕ) → Type 0
Remains view (Ok found) pairs = (number_of pairs ≤ MAX_ANSWER_ROWS) × (view found ≡ repeated pairs)
Remains view (Err TooMany) pairs = MAX_ANSWER_ROWS < number_of pairs
Remains view (Err NoMemory) pairs = Unit {0}
