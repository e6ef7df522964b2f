-- Machinery: conditions that only rows with a known cell pass.
use Rattle.std.specs.Prelude.{◌≡◌, ℕ, Bool, true, false, List, filter}
use Rattle.gp_base.specs.declared.cell.Cell.{Cell}
use Rattle.gp_expr.specs.Expressions as e
use Rattle.gp_expr.specs.Expressions.{Cond, Expr}
use Rattle.gp_expr.specs.Values.{passes}
use Rattle.gp_txn.specs.declared.overlay.Placed.{Placed}
use Rattle.gp_txn.specs.declared.overlay.Slot.{Slot}
use Rattle.gp_txn.specs.declared.overlay.Slot.TheVariants.{Same, Put, Dropped}
use Rattle.gp_versions.specs.Places.{are_equal, cell_at}

-- each row that passes the condition has an equal cell in the column
pub record Equates (n : ℕ) (cell : Cell) (cond : Cond) : Type 0 where
  pub equal : (row : List Cell) → passes cond row ≡ true → are_equal (cell_at n row) cell ≡ true

-- the expressions are the column and the constant
pub record Compares (n : ℕ) (cell : Cell) (first second : Expr) : Type 0 where
  pub first-is : first ≡ e.col n
  pub second-is : second ≡ e.constant cell

-- whether the transaction put an equal cell into the column of a row
abbrev pub puts_cell : ℕ → Cell → Slot → Bool
puts_cell n cell Same = false
puts_cell n cell (Put row) = are_equal (cell_at n row) cell
puts_cell n cell Dropped = false

-- the slots of those rows
abbrev pub found_slots : ℕ → Cell → List Placed → List Placed
found_slots n cell placed = filter (λ (one : Placed). puts_cell n cell one.slot) placed
