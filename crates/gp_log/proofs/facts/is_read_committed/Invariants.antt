use Rattle.std.proofs.Common.{◌≡◌, take}
use Rattle.gp_log.specs.Logs.{log_view}
use Rattle.gp_machine.specs.Entries.{is_read_committed}
use Rattle.gp_log.proofs.facts.is_read_committed.Given as goal

abbrev pub invariant-loop-entry : goal.invariant-loop-entry
invariant-loop-entry l = l.latest ≡ is_read_committed l.t (log_view (take l.entry-index l.entries))
