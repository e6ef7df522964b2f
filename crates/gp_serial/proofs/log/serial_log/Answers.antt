use Rattle.std.proofs.Common.{◌∙◌, ap, arith, length, refl, sym, take, get_or}
use Rattle.std.proofs.lemmas.Option.{slice_get-get_or}
use Rattle.gp_log.specs.Contents.{entries, tables}
use Rattle.gp_log.proofs.CountLemmas.{log_view-length}
use Rattle.gp_log.proofs.EntryLemmas.{entries-counted}
use Rattle.gp_machine.specs.Entries.{statement_count, transactions_in}
use Rattle.gp_serial.specs.SerialLogs.{begun, created, with_transaction}
use Rattle.gp_serial.proofs.GrowingLogs.{created_long, not_before, not_counted, room, transactions_next}
use Rattle.gp_serial.proofs.SerialEntries.{says_first}
use Rattle.gp_serial.proofs.log.serial_log.Goals as goal

pub push_begins-requires : goal.push_begins-requires
push_begins-requires c =
    omega (arith, ap length c.in_ok-push_tables.ensures, created_long (tables c.args.log.now), entries-counted (entries c.args.log.now), c.transactions.ensures, c.requires.order.few)

pub push_transaction-requires-clause-new : goal.push_transaction-requires-clause-new
push_transaction-requires-clause-new c =
    let order = c.args.order.now in
    let n = c.loop-t.t-index in
    let t = get_or order n 0 in
    let log = entries c.args.log.now in
    ap (statement_count t) c.loop-t.invariant
    ∙ not_counted log (take n order) (begun (transactions_in log) (created (tables c.args.log.now))) t
    (not_before order n t c.requires.order.once (slice_get-get_or order n 0 c.loop-t-test.true))
    ∙ (says_first log (tables c.args.log.now)).fresh t refl

pub push_transaction-requires-clause-room : goal.push_transaction-requires-clause-room
push_transaction-requires-clause-room c =
    let order = c.args.order.now in
    let n = c.loop-t.t-index in
    let log = entries c.args.log.now in
    omega (
      arith,
      log_view-length c.loop-t.new.entries,
      c.requires.order.few,
      room log (tables c.args.log.now) order n (get_or order n 0) c.loop-t.new.entries refl c.requires.order.once c.requires.order.most (slice_get-get_or order n 0 c.loop-t-test.true) c.loop-t.invariant,
    )

pub loop-t-preserved : goal.loop-t-preserved
loop-t-preserved c =
    let order = c.args.order.now in
    let n = c.loop-t.t-index in
    let log = entries c.args.log.now in
    c.in_ok-push_transaction.ensures
    ∙ ap (with_transaction log (get_or order n 0)) c.loop-t.invariant
    ∙ sym (transactions_next log order n (begun (transactions_in log) (created (tables c.args.log.now))) c.loop-t-test.true)
