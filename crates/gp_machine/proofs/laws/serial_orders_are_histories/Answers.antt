use Rattle.gp_base.specs.Annotated.{unannotated}
use Rattle.gp_machine.proofs.SerialLemmas.{runs_whole, serial_history, serial_same}
use Rattle.gp_machine.proofs.laws.serial_orders_are_histories.Goals as goal

pub returns-clause-history : goal.returns-clause-history
returns-clause-history c parameters log order tables once none = serial_history unannotated parameters log order tables once none

pub returns-clause-same : goal.returns-clause-same
returns-clause-same c parameters lines spans are order once all is = serial_same parameters lines spans are order once all is

pub returns-clause-runs : goal.returns-clause-runs
returns-clause-runs c parameters lines spans are u within = runs_whole parameters lines spans are u within
