use Rattle.gp_serial.proofs.AnomalyLawLemmas.{all_shown}
use Rattle.gp_serial.proofs.laws.anomalies_show_reasons.Goals as goal

pub returns : goal.returns
returns c tables entries changes keeps = all_shown tables entries changes keeps
