-- Part of the statement: the distinct rows of a list, in row order.
use Rattle.std.specs.Prelude.{List}
use Rattle.gp_base.specs.declared.cell.Cell.{Cell}
use Rattle.gp_base.specs.Order.{row_cmp}
use Rattle.gp_semiring.specs.Witnesses.{set_of}

-- each row once
abbrev pub distinct_rows : List (List Cell) → List (List Cell)
distinct_rows = set_of row_cmp
