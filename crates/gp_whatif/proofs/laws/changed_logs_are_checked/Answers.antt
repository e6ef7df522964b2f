use Rattle.gp_whatif.proofs.CheckedLogs.{changes_checked, logs_checked}
use Rattle.gp_whatif.proofs.laws.changed_logs_are_checked.Goals as goal

pub returns-clause-logs : goal.returns-clause-logs
returns-clause-logs c entries log = logs_checked entries log

pub returns-clause-changed : goal.returns-clause-changed
returns-clause-changed c entries new changes are e = changes_checked entries new changes are e
