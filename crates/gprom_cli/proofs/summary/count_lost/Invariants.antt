use Rattle.std.proofs.Common.{◌≡◌, ◌≤◌, ◌-◌}
use Rattle.gp_log.specs.Logs.{log_view}
use Rattle.gp_machine.specs.Entries.{transactions_in}
use Rattle.gprom_cli.specs.Summaries as spec
use Rattle.gprom_cli.proofs.summary.count_lost.Given as goal

-- the transactions so far
abbrev pub invariant-loop-t : goal.invariant-loop-t
invariant-loop-t l = (l.lost ≡ spec.lost_up_to (log_view l.log.entries) l.t) × (l.t ≤ transactions_in (log_view l.log.entries))

abbrev pub decreases-loop-t : goal.decreases-loop-t
decreases-loop-t l = transactions_in (log_view l.log.entries) - l.t
