use Rattle.std.proofs.Common.{sym, ◌∙◌}
use Rattle.gp_txn.specs.Changes.{change_view}
use Rattle.gp_txn.proofs.ChangedLemmas.{carried-untouched}
use Rattle.gp_txn.proofs.update.changed_carried.Goals as goal

pub returns-then-count-eq0-clause-rows : goal.returns-then-count-eq0-clause-rows
returns-then-count-eq0-clause-rows c = sym (carried-untouched (change_view c.args.change.now) c.args.carried.now (sym c.count_carried-count.ensures.count ∙ c.if-count-eq0.true))
