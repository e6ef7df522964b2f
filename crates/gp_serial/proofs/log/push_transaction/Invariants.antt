use Rattle.std.proofs.Common.{◌≡◌}
use Rattle.gp_log.specs.Contents.{entries}
use Rattle.gp_serial.specs.SerialLogs.{with_statements}
use Rattle.gp_serial.proofs.log.push_transaction.Given as goal

-- the first statements
abbrev pub invariant-loop-before : goal.invariant-loop-before
invariant-loop-before l = entries l.new ≡ with_statements (entries l.log) l.t l.before (entries l.initial.new)
