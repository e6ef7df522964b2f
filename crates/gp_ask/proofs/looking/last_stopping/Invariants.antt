use Rattle.std.proofs.Common.{◌-◌}
use Rattle.gp_log.specs.Logs.{log_view}
use Rattle.gp_machine.specs.Entries.{statement_count}
use Rattle.gp_ask.specs.Looked.{NoneStops}
use Rattle.gp_ask.proofs.looking.last_stopping.Given as goal

-- the last statements, this many, pass no limit
abbrev pub invariant-loop-before : goal.invariant-loop-before
invariant-loop-before l =
    let count = statement_count l.t (log_view l.log.entries) in
    NoneStops l.t (count - l.before) count (log_view l.log.entries)
