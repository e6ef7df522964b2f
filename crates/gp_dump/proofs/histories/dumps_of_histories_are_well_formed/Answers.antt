use Rattle.gp_dump.proofs.HistoryDumps.{dumps_are_well_formed}
use Rattle.gp_dump.proofs.histories.dumps_of_histories_are_well_formed.Goals as goal

pub returns : goal.returns
returns c = record { rules = λ lines are. dumps_are_well_formed lines are }
