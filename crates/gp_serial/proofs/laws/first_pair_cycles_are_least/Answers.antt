use Rattle.gp_serial.proofs.PairLawLemmas.{least_first}
use Rattle.gp_serial.proofs.laws.first_pair_cycles_are_least.Goals as goal

pub returns : goal.returns
returns c is_before goes_back all up back = least_first is_before goes_back all up back
