use Rattle.std.proofs.Common.{◌+◌, drop, get_or}
use Rattle.gp_log.specs.Contents.{entries, tables}
use Rattle.gp_machine.specs.Entries.{statement_count}
use Rattle.gp_serial.specs.Preceding.{all_links, transaction_links}
use Rattle.gp_serial.proofs.RelationLemmas.{any_drop, remains_next}
use Rattle.gp_serial.proofs.relation.add_transactions.Goals as goal

pub loop-t-preserved : goal.loop-t-preserved
loop-t-preserved c =
    let log = entries c.args.log.now in
    let all = tables c.args.log.now in
    let changes = c.args.changes.now in
    let list = c.args.committers.now in
    let i = c.loop-t.t-index in
    remains_next (all_links log all changes (drop i list)) (all_links log all changes (drop (i + 1) list)) (all_links log all changes list)
    (transaction_links log all changes (get_or list i 0) (statement_count (get_or list i 0) log)) c.args.graph.now c.loop-t.graph c.add_transaction.new.graph
    c.loop-t.invariant c.in_ok-add_transaction.ensures
    (λ a b. any_drop (λ t. transaction_links log all changes t (statement_count t log) a b) list i 0 c.loop-t-test.true)
