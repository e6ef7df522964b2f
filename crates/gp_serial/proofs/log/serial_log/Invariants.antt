use Rattle.std.proofs.Common.{◌≡◌, take}
use Rattle.gp_log.specs.Contents.{entries, tables}
use Rattle.gp_machine.specs.Entries.{transactions_in}
use Rattle.gp_serial.specs.SerialLogs.{begun, created, with_transactions}
use Rattle.gp_serial.proofs.log.serial_log.Given as goal

-- the first transactions have run
abbrev pub invariant-loop-t : goal.invariant-loop-t
invariant-loop-t l = entries l.new ≡ with_transactions (entries l.log) (take l.t-index l.order) (begun (transactions_in (entries l.log)) (created (tables l.log)))
