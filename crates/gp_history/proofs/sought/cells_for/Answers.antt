use Rattle.std.proofs.Common.{List, ap, drop, inr, map, subst, ◌+◌}
use Rattle.gp_algebra.specs.Statements.{Statement}
use Rattle.gp_algebra.specs.Views.{statement_view}
use Rattle.gp_history.specs.Narrowing.{leaves}
use Rattle.gp_history.proofs.NarrowedLemmas.{next_dropped}
use Rattle.gp_history.proofs.SeekingLemmas.{Seeks, dropped-all, seeks-all, seeks-next}
use Rattle.gp_history.proofs.sought.cells_for.Goals as goal

pub loop-stmt-init : goal.loop-stmt-init
loop-stmt-init c = λ row refused. inr refused

pub loop-stmt-preserved : goal.loop-stmt-preserved
loop-stmt-preserved c =
    let test = leaves c.args.table in
    let statements = c.args.statements.now in
    let all : List Statement = map (λ stmt. statement_view stmt.now) statements in
    let at = c.loop-stmt.stmt-index in
    let few = c.loop-stmt.cells.items in
    let step = ap (map (λ stmt. statement_view stmt.now)) (next_dropped statements at c.stmt-item.result c.loop-stmt-test.true c.stmt-item.is) in
    seeks-next test all (map (λ stmt. statement_view stmt.now) (drop (at + 1) statements)) (statement_view c.stmt-item.result.now) few c.push_statement.new.cells.items c.in_ok-push_statement.ensures.kept
    (c.in_ok-push_statement.ensures.sought c.if-not-branch.false) (subst (λ (rest : List Statement). Seeks test all rest few) step c.loop-stmt.invariant)

pub returns : goal.returns
returns c =
    let test = leaves c.args.table in
    let statements = c.args.statements.now in
    let all : List Statement = map (λ stmt. statement_view stmt.now) statements in
    seeks-all test all c.loop-stmt.cells.items
    (subst (λ (rest : List Statement). Seeks test all rest c.loop-stmt.cells.items) (ap (map (λ stmt. statement_view stmt.now)) (dropped-all c.loop-stmt.stmt-index statements c.loop-stmt-test.false)) c.loop-stmt.invariant)
