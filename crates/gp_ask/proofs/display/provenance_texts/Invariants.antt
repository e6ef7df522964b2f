use Rattle.std.proofs.Common.{◌≡◌, map, take}
use Rattle.gp_ask.specs.Texts.{provenance_text}
use Rattle.gp_ask.proofs.display.provenance_texts.Given as goal

-- the texts of the rows so far
abbrev pub invariant-loop-listed : goal.invariant-loop-listed
invariant-loop-listed l = l.texts ≡ map provenance_text (take l.listed-index l.rows)
