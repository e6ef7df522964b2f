use Rattle.gp_serial.proofs.AnomalyLawLemmas.{none_if_none, none_where_none}
use Rattle.gp_serial.proofs.laws.no_anomaly_without_a_cycle.Goals as goal

pub returns-clause-none : goal.returns-clause-none
returns-clause-none c tables entries changes keeps none other cycle = none_where_none tables entries changes keeps none other cycle

pub returns-clause-only : goal.returns-clause-only
returns-clause-only c tables entries changes keeps none = none_if_none tables entries changes keeps none
