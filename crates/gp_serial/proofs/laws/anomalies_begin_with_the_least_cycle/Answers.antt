use Rattle.gp_serial.proofs.AnomalyLawLemmas.{cycles_begin}
use Rattle.gp_serial.proofs.laws.anomalies_begin_with_the_least_cycle.Goals as goal

pub returns : goal.returns
returns c tables entries changes keeps = cycles_begin tables entries changes keeps
