use Rattle.std.proofs.Common.{◌-◌}
use Rattle.gp_log.specs.Contents.{entries}
use Rattle.gp_machine.specs.Entries.{statement_count}
use Rattle.gp_serial.specs.Comparing.{NoneStops}
use Rattle.gp_serial.proofs.serializing.last_stopping.Given as goal

-- the last statements, this many, pass no limit
abbrev pub invariant-loop-before : goal.invariant-loop-before
invariant-loop-before l =
    let count = statement_count l.t (entries l.log) in
    NoneStops l.t (count - l.before) count (entries l.log)
