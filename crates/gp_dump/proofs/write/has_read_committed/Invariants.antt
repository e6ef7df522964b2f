use Rattle.std.proofs.Common.{◌≡◌, ◌≤◌, length, take}
use Rattle.gp_log.specs.Logs.{log_view}
use Rattle.gp_dump.specs.Dumps.{has_read_committed}
use Rattle.gp_dump.proofs.write.has_read_committed.Given as goal

abbrev pub invariant-loop-place : goal.invariant-loop-place
invariant-loop-place l = record {
  within : l.place ≤ length l.log.entries;
  told : has_read_committed (log_view l.log.entries) ≡ has_read_committed (log_view (take l.place l.log.entries));
}

abbrev pub decreases-loop-place : goal.decreases-loop-place
decreases-loop-place l = l.place
