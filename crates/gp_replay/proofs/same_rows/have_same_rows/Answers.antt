use Rattle.gp_replay.specs.SameRows.{in_order}
use Rattle.gp_replay.proofs.SameLemmas.{all-same, goes-on, same-ordered}
use Rattle.gp_replay.proofs.same_rows.have_same_rows.Goals as goal

pub loop-at-init : goal.loop-at-init
loop-at-init c = λ all. all

pub loop-at-preserved : goal.loop-at-preserved
loop-at-preserved c = goes-on in_order in_order c.args.tables.now c.args.others.now c.loop-at.at (c.in_ok-same.ensures c.if-not-same.false) c.loop-at.invariant

pub returns : goal.returns
returns c = λ yes.
    same-ordered c.args.tables.now c.args.others.now (all-same in_order in_order c.args.tables.now c.args.others.now c.loop-at.at c.loop-at-test.false c.if-at-others.false c.loop-at.invariant)
