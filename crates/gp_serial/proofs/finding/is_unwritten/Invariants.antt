use Rattle.gp_log.specs.Contents.{entries}
use Rattle.gp_machine.specs.Entries.{log_of}
use Rattle.gp_serial.specs.Finding.{IsUnwritten}
use Rattle.gp_serial.proofs.finding.is_unwritten.Given as goal

-- the first statements, this many
abbrev pub invariant-loop-before : goal.invariant-loop-before
invariant-loop-before l = IsUnwritten (log_of (entries l.log)) l.t l.table l.before
