use Rattle.std.proofs.Common.{◌≡◌, take}
use Rattle.gp_log.specs.Logs.{log_view}
use Rattle.gp_machine.specs.Entries.{versions_in}
use Rattle.gp_ask.specs.ConflictForms.{found_before}
use Rattle.gp_ask.proofs.conflicts.commits_before_end.Given as goal

-- the commits among the entries so far, and those before the end of the transaction, if it is among them
abbrev pub invariant-loop-place : goal.invariant-loop-place
invariant-loop-place l = (l.commits ≡ versions_in (log_view (take l.place l.log.entries))) × (l.found ≡ found_before l.t (log_view (take l.place l.log.entries)))
