use Rattle.gp_machine.proofs.ReplayedLemmas.{replayed_unstopped}
use Rattle.gp_machine.proofs.UnstoppedLemmas.{all_unstopped}
use Rattle.gp_machine.proofs.laws.histories_do_not_stop.Goals as goal

pub returns-clause-reached : goal.returns-clause-reached
returns-clause-reached g c kind limits lines = all_unstopped kind limits lines

pub returns-clause-replayed : goal.returns-clause-replayed
returns-clause-replayed g c kind limits catalogue entries order none = replayed_unstopped kind limits catalogue entries order none
