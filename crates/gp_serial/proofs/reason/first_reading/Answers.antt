use Rattle.std.proofs.Common.{arith, map, sym}
use Rattle.gp_log.specs.Contents.{entries, tables}
use Rattle.gp_machine.specs.Entries.{statement_count}
use Rattle.gp_serial.specs.Changes.{change_view}
use Rattle.gp_serial.specs.Reasons.{paired}
use Rattle.gp_serial.proofs.ReasonLemmas.{first_plus, none_plus}
use Rattle.gp_serial.proofs.reason.first_reading.Goals as goal

pub loop-before-preserved : goal.loop-before-preserved
loop-before-preserved c =
    none_plus (tables c.args.log.now) (entries c.args.log.now) paired c.args.reader c.args.writer (map change_view c.args.changes.now) c.args.earlier c.loop-before.before c.loop-before.invariant
    (sym (rw c.in_default.is at c.in_ok-change.ensures))

pub returns-in-Some : goal.returns-in-Some
returns-in-Some c =
    first_plus (tables c.args.log.now) (entries c.args.log.now) paired c.args.reader c.args.writer (map change_view c.args.changes.now) c.args.earlier (statement_count c.args.reader (entries c.args.log.now)) c.loop-before.before
    (omega (arith, c.loop-before-test.true, c.statement_count-before-end.ensures)) c.loop-before.invariant (change_view c.in-Some.change) (sym (rw c.in-Some.is at c.in_ok-change.ensures))
