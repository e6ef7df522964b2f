use Rattle.std.proofs.Common.{◌≡◌, None, take}
use Rattle.gp_log.specs.Logs.{log_view}
use Rattle.gp_machine.specs.Entries.{statement_at}
use Rattle.gp_serial.proofs.log.shared_statement.Given as goal

-- it is not among the first entries
abbrev pub invariant-loop-place : goal.invariant-loop-place
invariant-loop-place l = statement_at l.t l.k (log_view (take l.place l.log.entries)) ≡ None
