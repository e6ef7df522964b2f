use Rattle.gp_whatif.proofs.RisingLines.{changes_rise, logs_lines, logs_rise}
use Rattle.gp_whatif.proofs.laws.changed_lines_rise.Goals as goal

pub returns-clause-lines : goal.returns-clause-lines
returns-clause-lines c limits entries log = logs_lines limits entries log

pub returns-clause-logs : goal.returns-clause-logs
returns-clause-logs c limits entries log = logs_rise limits entries log

pub returns-clause-changed : goal.returns-clause-changed
returns-clause-changed c limits entries new changes rise e = changes_rise limits entries new changes rise e
