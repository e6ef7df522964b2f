use Rattle.gp_txn.specs.Transactions.{view_at}
use Rattle.gp_txn.proofs.ViewLemmas.{wanted-all}
use Rattle.gp_txn.proofs.active.Active.view.Goals as goal

pub returns : goal.returns
returns c = rw (c.spans_of-spans.ensures.spans, wanted-all (view_at c.args.self.now.tables c.args.versions.now c.args.version c.args.table)) at c.view_over.ensures
