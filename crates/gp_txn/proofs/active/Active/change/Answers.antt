use Rattle.std.proofs.Common.{arith}
use Rattle.gp_txn.specs.Changes.{change_view}
use Rattle.gp_txn.proofs.AppliedLemmas.{change-wrote}
use Rattle.gp_txn.proofs.active.Active.change.Goals as goal

pub returns : goal.returns
returns c =
    rw (c.in_ok-change_rows.ensures.ok, c.spans_of-spans.ensures.spans)
    (change-wrote c.args.k c.args.version c.args.table (change_view c.args.change.now) c.args.versions.now c.args.self.now c.in_ok-change_rows.field-0 (omega (arith, c.requires.table, c.in_ok-change_rows.ensures.tables))
    c.in_ok-change_rows.ensures.own (rw c.spans_of-spans.ensures.spans at c.in_ok-change_rows.ensures.count))
