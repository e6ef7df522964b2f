-- Of the contract of `delta_sizes`: how many rows a difference takes away, and how many it adds.
use Rattle.std.specs.Prelude.{ℕ, List, length}
use Rattle.gp_ask.specs.Deltas.{Signed, added_rows, removed_rows}

abbrev pub removed_in : List Signed → ℕ
removed_in lines = length (removed_rows lines)

abbrev pub added_in : List Signed → ℕ
added_in lines = length (added_rows lines)
