use Rattle.std.proofs.Common.{◌≡◌, ◌++◌, None, drop}
use Rattle.std.specs.Option.{option_map}
use Rattle.gp_ask.specs.RowLines.{first_texts}
use Rattle.gp_ask.proofs.row_lines.first_texts.Given as goal

-- the rows that remain give the other texts
abbrev pub invariant-loop-row : goal.invariant-loop-row
invariant-loop-row l = l.texts ++ first_texts (option_map (λ row. row.now) l.last) (drop l.row-index l.row-items) ≡ first_texts None l.row-items
