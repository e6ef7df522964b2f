use Rattle.gp_serial.proofs.AnomalyLawLemmas.{goes_back_in}
use Rattle.gp_serial.proofs.laws.cycles_go_back.Goals as goal

pub returns : goal.returns
returns c tables entries changes keeps other cycle = goes_back_in tables entries changes keeps other cycle
