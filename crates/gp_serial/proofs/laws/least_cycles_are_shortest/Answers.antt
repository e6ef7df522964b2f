use Rattle.gp_serial.proofs.LeastLemmas.{least_is}
use Rattle.gp_serial.proofs.laws.least_cycles_are_shortest.Goals as goal

pub returns : goal.returns
returns c is_before all up some = least_is is_before all up some
