use Rattle.std.proofs.Common.{◌≡◌, map, take}
use Rattle.gp_ask.specs.Texts.{signed_text}
use Rattle.gp_ask.proofs.display.signed_texts.Given as goal

-- the texts of the rows so far
abbrev pub invariant-loop-row : goal.invariant-loop-row
invariant-loop-row l = l.texts ≡ map signed_text (take l.row-index l.rows)
