use Rattle.std.proofs.Common.{suc, ◌∙◌, add-one, ap, arith, length, sym}
use Rattle.gp_log.specs.Contents.{entries}
use Rattle.gp_log.proofs.CountLemmas.{log_view-length}
use Rattle.gp_machine.specs.Entries.{statement_count}
use Rattle.gp_serial.proofs.GrowingLogs.{statements_long}
use Rattle.gp_serial.proofs.SerialEntries.{count_is}
use Rattle.gp_serial.proofs.log.push_transaction.Goals as goal

pub push_statement-requires-clause-next : goal.push_statement-requires-clause-next
push_statement-requires-clause-next c =
    add-one c.loop-before.before
    ∙ ap suc (sym (ap (statement_count c.args.t) c.loop-before.invariant
    ∙ count_is (entries c.args.log.now) c.args.t (entries c.args.new.now) c.requires.new c.loop-before.before (omega (arith, c.loop-before-test.true, c.statement_count-before-end.ensures))))

pub push_statement-requires-clause-room : goal.push_statement-requires-clause-room
push_statement-requires-clause-room c =
    omega (
      arith,
      ap length c.loop-before.invariant,
      statements_long (entries c.args.log.now) c.args.t c.loop-before.before (entries c.args.new.now),
      c.requires.room,
      c.loop-before-test.true,
      c.statement_count-before-end.ensures,
    )

pub append-requires-clause-few : goal.append-requires-clause-few
append-requires-clause-few c =
    omega (
      arith,
      log_view-length c.loop-before.new.entries,
      ap length c.loop-before.invariant,
      statements_long (entries c.args.log.now) c.args.t c.loop-before.before (entries c.args.new.now),
      c.requires.room,
      c.loop-before.auto.before-end,
      c.statement_count-before-end.ensures,
    )
