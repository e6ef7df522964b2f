use Rattle.gp_log.proofs.KeptSessions.{read_before, rising, steady}
use Rattle.gp_log.proofs.LoggedSessions.{sessions_kept}
use Rattle.gp_log.proofs.laws.statements_read_in_order.Goals as goal

pub returns-clause-rising : goal.returns-clause-rising
returns-clause-rising c limits log is t j k below within = rising log (sessions_kept limits log is) t j k below within

pub returns-clause-steady : goal.returns-clause-steady
returns-clause-steady c limits log is t k e within = steady log (sessions_kept limits log is) t k e within

pub returns-clause-committed : goal.returns-clause-committed
returns-clause-committed c limits log is t version k made within = read_before log (sessions_kept limits log is) t version k made within
