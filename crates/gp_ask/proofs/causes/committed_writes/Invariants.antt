use Rattle.std.proofs.Common.{◌≡◌, map, take}
use Rattle.gp_log.specs.Logs.{log_view}
use Rattle.gp_ask.specs.Differences.{written_by}
use Rattle.gp_ask.specs.Writes.{AreWrites, write_view}
use Rattle.gp_ask.proofs.causes.committed_writes.Given as goal

-- those of the entries so far
abbrev pub invariant-loop-place : goal.invariant-loop-place
invariant-loop-place l =
    (map write_view l.writes.items ≡ written_by (log_view l.log.entries) (log_view (take l.place l.log.entries))) × AreWrites (log_view l.log.entries) l.writes.items
