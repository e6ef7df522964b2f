use Rattle.std.proofs.Common.{◌<◌, take}
use Rattle.gp_machine.specs.Entries.{statement_count}
use Rattle.gp_log.specs.Logs.{log_view}
use Rattle.gp_whatif.proofs.changing.place_of.Given as goal

-- the entries so far do not have the statement
abbrev pub invariant-loop-place : goal.invariant-loop-place
invariant-loop-place l = statement_count l.t (log_view (take l.place l.log.entries)) < l.k
