-- Lemmas of cells: a row in range stays in range when a cell in range is added.
use Rattle.std.proofs.Common.{List, [], ◌∷◌, ◌++◌}
use Rattle.gp_base.specs.declared.cell.Cell.{Cell}
use Rattle.gp_base.specs.CellForms.{IsInRange, AreInRange}

pub AreInRange-push : (cells : List Cell) (cell : Cell) → AreInRange cells → IsInRange cell → AreInRange (cells ++ cell ∷ [])
AreInRange-push [] cell all one = (one, tt)
AreInRange-push (c ∷ cells) cell all one = (all.0, AreInRange-push cells cell all.1 one)

-- for `Row::push`
pub ruleset rows_in_range = (AreInRange-push)
