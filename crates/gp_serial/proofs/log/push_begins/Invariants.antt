use Rattle.std.proofs.Common.{◌≡◌}
use Rattle.gp_log.specs.Contents.{entries}
use Rattle.gp_serial.specs.SerialLogs.{begun}
use Rattle.gp_serial.proofs.log.push_begins.Given as goal

-- the first transactions
abbrev pub invariant-loop-before : goal.invariant-loop-before
invariant-loop-before l = entries l.new ≡ begun l.before (entries l.initial.new)
