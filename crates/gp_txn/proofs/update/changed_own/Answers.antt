use Rattle.std.proofs.Common.{sym, ◌∙◌}
use Rattle.gp_txn.specs.Changes.{change_view}
use Rattle.gp_txn.proofs.ChangedLemmas.{own-untouched}
use Rattle.gp_txn.proofs.update.changed_own.Goals as goal

pub returns-then-count-eq0-clause-own : goal.returns-then-count-eq0-clause-own
returns-then-count-eq0-clause-own c = sym (own-untouched (change_view c.args.change.now) c.args.own.now (sym c.count_own-count.ensures.count ∙ c.if-count-eq0.true))
