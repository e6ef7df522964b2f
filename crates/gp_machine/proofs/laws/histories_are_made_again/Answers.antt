use Rattle.gp_machine.proofs.ReplayLemmas.{history_made, own_spans, own_unstopped}
use Rattle.gp_machine.proofs.Prelude.{versions_in, after, start, arith}
use Rattle.gp_machine.proofs.laws.histories_are_made_again.Goals as goal

pub returns-clause-unstopped : goal.returns-clause-unstopped
returns-clause-unstopped g c kind limits checks lines = own_unstopped kind limits checks lines (versions_in (after kind limits start lines).entries) (omega arith)

pub returns-clause-spans : goal.returns-clause-spans
returns-clause-spans g c kind limits checks lines place = own_spans kind limits checks lines place

pub returns-clause-history : goal.returns-clause-history
returns-clause-history g c kind limits log tables u order within none = history_made kind log tables limits order u within none
