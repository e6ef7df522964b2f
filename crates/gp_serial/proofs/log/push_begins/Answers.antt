use Rattle.std.proofs.Common.{arith}
use Rattle.gp_serial.proofs.GrowingLogs.{begun_few}
use Rattle.gp_serial.proofs.log.push_begins.Goals as goal

pub append-requires-clause-few : goal.append-requires-clause-few
append-requires-clause-few c =
    omega (arith, begun_few c.loop-before.before c.args.new.now.entries c.loop-before.new.entries c.loop-before.invariant, c.requires, c.loop-before-test.true)
