use Rattle.std.proofs.Common.{List, map, drop, subst, sym, true, ◌≡◌}
use Rattle.std.specs.List.{list_all}
use Rattle.gp_algebra.specs.Views.{branch_view}
use Rattle.gp_algebra.specs.declared.statement.Branch as stored
use Rattle.gp_ask.specs.HistoryForms.{is_simple_branch}
use Rattle.gp_ask.proofs.HistoryLines.{simple-next}
use Rattle.gp_ask.proofs.row_histories.meets.Goals as goal

pub branch_meets-requires : goal.branch_meets-requires
branch_meets-requires c =
    let items = c.as_slice-branch-items.result.now in
    let place = c.loop-branch.branch-index in
    simple-next items place c.branch-item.result c.loop-branch-test.true c.branch-item.is
    (subst (λ (own : List stored.Branch). list_all is_simple_branch (map branch_view (drop place own)) ≡ true) (sym c.as_slice-branch-items.ensures) c.loop-branch.invariant.simple)
