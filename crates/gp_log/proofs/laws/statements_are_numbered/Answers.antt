use Rattle.gp_log.proofs.KeptSessions.{none_ran}
use Rattle.gp_log.proofs.LoggedSessions.{sessions_kept}
use Rattle.gp_log.proofs.NumberingLemmas.{statement-outside, no-statement}
use Rattle.gp_log.proofs.laws.statements_are_numbered.Goals as goal

pub returns-clause-none : goal.returns-clause-none
returns-clause-none c log t k = (no-statement t k log, statement-outside t k log)

pub returns-clause-unknown : goal.returns-clause-unknown
returns-clause-unknown c limits log is t outside = none_ran log (sessions_kept limits log is) t outside
