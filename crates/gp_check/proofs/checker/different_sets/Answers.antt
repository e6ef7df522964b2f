use Rattle.std.proofs.Common.{rules}
use Rattle.gp_check.proofs.checker.different_sets.Goals as goal
use Rattle.gp_base.proofs.SmallLemmas.{map-map}

pub returns-in-None : goal.returns-in-None
returns-in-None c = rw map-map (search rules)

pub returns-in_ok-clone-in-Some : goal.returns-in_ok-clone-in-Some
returns-in_ok-clone-in-Some c = rw map-map (search rules)
