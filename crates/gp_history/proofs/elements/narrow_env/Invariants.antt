use Rattle.std.proofs.Common.{take}
use Rattle.gp_history.specs.Narrowing.{narrow_versions}
use Rattle.gp_history.proofs.ElementLemmas.{AreScanned}
use Rattle.gp_history.proofs.elements.narrow_env.Given as goal

abbrev pub invariant-loop-at : goal.invariant-loop-at
invariant-loop-at g l = AreScanned (narrow_versions l.known) (take l.at-index l.scans) l.found
