use Rattle.std.proofs.Common.{◌≡◌, take, drop}
use Rattle.gp_dumpline.specs.Numbers.{cut_at}
use Rattle.gp_dumpline.proofs.PartLemmas.{in_front}
use Rattle.gp_dumpline.proofs.part.cut_at.Given as goal

abbrev pub invariant-loop-i : goal.invariant-loop-i
invariant-loop-i l = cut_at l.stop l.text ≡ in_front (take l.i l.text) (cut_at l.stop (drop l.i l.text))
