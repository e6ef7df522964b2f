use Rattle.std.proofs.Common.{List, ap, drop, inr, map, subst, ◌+◌}
use Rattle.gp_algebra.specs.Statements.{Branch}
use Rattle.gp_algebra.specs.Views.{branch_view, select_view}
use Rattle.gp_history.specs.Narrowing.{skips}
use Rattle.gp_history.proofs.NarrowedLemmas.{next_dropped}
use Rattle.gp_history.proofs.SeekingLemmas.{Seeks, dropped-all, seeks-all, seeks-next}
use Rattle.gp_history.proofs.sought.push_select.Goals as goal

pub loop-branch-init : goal.loop-branch-init
loop-branch-init c = record { kept = λ own there. there; seeks = λ row refused. inr refused }

pub loop-branch-preserved : goal.loop-branch-preserved
loop-branch-preserved c =
    let test = skips c.args.table in
    let all = select_view c.args.select.now in
    let branches = c.args.select.now.branches in
    let at = c.loop-branch.branch-index in
    let few = c.loop-branch.cells.items in
    let step = ap (map branch_view) (next_dropped branches at c.branch-item.result (rw c.as_slice-branch-items.ensures at c.loop-branch-test.true) (rw c.as_slice-branch-items.ensures at c.branch-item.is)) in
    record {
      kept = λ own there. c.in_ok-push_branch.ensures.kept own (c.loop-branch.invariant.kept own there);
      seeks =
          seeks-next test all (map branch_view (drop (at + 1) branches)) (branch_view c.branch-item.result) few c.push_branch.new.cells.items c.in_ok-push_branch.ensures.kept
          (c.in_ok-push_branch.ensures.sought c.if-not-branch.false) (subst (λ (rest : List Branch). Seeks test all rest few) step c.loop-branch.invariant.seeks);
    }

pub returns-clause-kept : goal.returns-clause-kept
returns-clause-kept c = c.loop-branch.invariant.kept

pub returns-clause-sought : goal.returns-clause-sought
returns-clause-sought c = λ known.
    let test = skips c.args.table in
    let all = select_view c.args.select.now in
    seeks-all test all c.loop-branch.cells.items
    (subst (λ (rest : List Branch). Seeks test all rest c.loop-branch.cells.items) (ap (map branch_view) (dropped-all c.loop-branch.branch-index c.args.select.now.branches (rw c.as_slice-branch-items.ensures at c.loop-branch-test.false))) c.loop-branch.invariant.seeks)
