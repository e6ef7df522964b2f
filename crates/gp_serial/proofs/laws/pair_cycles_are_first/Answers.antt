use Rattle.gp_serial.proofs.PairLawLemmas.{pairs_are}
use Rattle.gp_serial.proofs.laws.pair_cycles_are_first.Goals as goal

pub returns : goal.returns
returns c is_before goes_back all up = pairs_are is_before goes_back all up
