use Rattle.std.proofs.Common.{◌≡◌, take}
use Rattle.gp_log.specs.Logs.{log_view}
use Rattle.gp_machine.specs.Entries.{version_of, versions_in}
use Rattle.gp_log.proofs.facts.version_of.Given as goal

abbrev pub invariant-loop-entry : goal.invariant-loop-entry
invariant-loop-entry l = (l.version ≡ versions_in (log_view (take l.entry-index l.entries))) × (l.found ≡ version_of l.t (log_view (take l.entry-index l.entries)))
