-- Of the law `lines_are_one_line` (gp_dumpline) and of the contract of `check` (gp_check): cells that a user can write.
use Rattle.std.specs.Prelude.{Bool, true, false}
use Rattle.gp_base.specs.declared.cell.Cell.{Cell}
use Rattle.gp_base.specs.declared.cell.Cell.TheVariants.{Null, Int, Text}
use Rattle.gp_base.specs.Cells.{fits_number, is_user_text}

-- a cell that a user can write
abbrev pub is_user_cell : Cell → Bool
is_user_cell Null = true
is_user_cell (Int number) = fits_number number
is_user_cell (Text text) = is_user_text text
is_user_cell _ = false
