use Rattle.std.proofs.Common.{◌≡◌, ◌≤◌, length, take}
use Rattle.gp_log.specs.Discipline.{transaction_in}
use Rattle.gp_log.specs.Logs.{log_view}
use Rattle.gp_dump.proofs.discipline.transaction_in.Given as goal

abbrev pub invariant-loop-place : goal.invariant-loop-place
invariant-loop-place l = record {
  within : l.place ≤ length l.log.entries;
  told : transaction_in l.session (log_view l.log.entries) ≡ transaction_in l.session (log_view (take l.place l.log.entries));
}

abbrev pub decreases-loop-place : goal.decreases-loop-place
decreases-loop-place l = l.place
