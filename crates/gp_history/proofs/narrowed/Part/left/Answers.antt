use Rattle.std.proofs.Common.{List, map, sym, ◌∙◌}
use Rattle.gp_algebra.specs.Statements.{Statement}
use Rattle.gp_algebra.specs.Views.{statement_view}
use Rattle.gp_history.specs.Narrowing as n
use Rattle.gp_history.proofs.NarrowedLemmas.{goes_next, stays_below}
use Rattle.gp_history.proofs.narrowed.Part.left.Goals as goal

pub take-requires : goal.take-requires
take-requires g c is =
    let statements : List Statement = map (λ stmt. statement_view stmt.now) c.args.statements.now in
    stays_below (n.meets c.args.reach) (n.stays_if c.args.tested c.args.reach c.args.t statements c.args.table) c.args.spans.now c.args.annotations.now c.loop-i.part c.loop-i.i c.index-spans-i.result
    c.loop-i-test.true c.index-spans-i.is (sym c.stays_if-stays.ensures ∙ is) c.loop-i.invariant

pub loop-i-preserved : goal.loop-i-preserved
loop-i-preserved g c =
    let statements : List Statement = map (λ stmt. statement_view stmt.now) c.args.statements.now in
    goes_next (n.meets c.args.reach) (n.stays_if c.args.tested c.args.reach c.args.t statements c.args.table) c.args.spans.now c.args.annotations.now c.loop-i.part c.take.new.self c.loop-i.i
    c.index-spans-i.result c.index-annotations-i.result c.meets-meets.result c.stays_if-stays.result c.loop-i-test.true c.requires.each c.index-spans-i.is c.index-annotations-i.is c.meets-meets.ensures
    c.stays_if-stays.ensures c.in_ok-take.ensures.spans c.in_ok-take.ensures.annotations c.in_ok-take.ensures.left_out c.loop-i.invariant
