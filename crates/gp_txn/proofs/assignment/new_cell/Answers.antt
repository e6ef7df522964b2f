use Rattle.std.proofs.Common.{◌≡◌, true, sym, subst}
use Rattle.gp_algebra.specs.Views.{set_view}
use Rattle.gp_exec.proofs.ListLemmas.{passes_at}
use Rattle.gp_txn.specs.Changes.{set_is_simple}
use Rattle.gp_txn.proofs.assignment.new_cell.Goals as goal

pub eval_simple-requires : goal.eval_simple-requires
eval_simple-requires c =
    subst (λ set. set_is_simple (set_view set) ≡ true) (sym c.set-item.is)
    (passes_at set_is_simple set_view c.args.sets.now c.loop-set.set-index c.set-item.result c.loop-set-test.true c.requires.sets)
