use Rattle.std.proofs.Common.{arith}
use Rattle.gp_txn.proofs.AppliedLemmas.{insert-wrote}
use Rattle.gp_txn.proofs.active.Active.insert.Goals as goal

pub returns : goal.returns
returns c = rw (c.in_ok-insert_rows.ensures.ok, c.spans_of-spans.ensures.spans) (insert-wrote c.args.k c.args.version c.args.table c.args.rows.now c.in_ok-new.new c.args.versions.now c.args.self.now c.in_ok-insert_rows.field-0 (omega (arith, c.requires.table, c.in_ok-insert_rows.ensures.tables)) c.in_ok-new.ensures.rows c.in_ok-insert_rows.ensures.count)
