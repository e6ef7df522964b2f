use Rattle.std.proofs.Common.{◌≡◌, take}
use Rattle.gp_log.specs.Contents.{entries, tables}
use Rattle.gp_serial.specs.SerialLogs.{created}
use Rattle.gp_serial.proofs.log.push_tables.Given as goal

-- the first tables
abbrev pub invariant-loop-place : goal.invariant-loop-place
invariant-loop-place l = entries l.new ≡ created (take l.place (tables l.log))
