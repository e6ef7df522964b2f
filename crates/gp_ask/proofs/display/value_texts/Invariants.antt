use Rattle.std.proofs.Common.{◌≡◌, map, take}
use Rattle.gp_ask.specs.Texts.{value_text}
use Rattle.gp_ask.proofs.display.value_texts.Given as goal

-- the texts of the rows so far
abbrev pub invariant-loop-valued : goal.invariant-loop-valued
invariant-loop-valued l = l.texts ≡ map value_text (take l.valued-index l.rows)
