use Rattle.std.proofs.Common.{◌≡◌, ◌++◌, drop}
use Rattle.gp_ask.specs.RowLines.{row_texts}
use Rattle.gp_ask.proofs.row_lines.sorted_texts.Given as goal

-- the rows that remain give the other texts
abbrev pub invariant-loop-row : goal.invariant-loop-row
invariant-loop-row l = l.texts ++ row_texts (drop l.row-index l.row-items) ≡ row_texts l.row-items
