use Rattle.std.specs.Prelude.{slice_get}
use Rattle.gp_replay.proofs.SameLemmas.{all-same, goes-on}
use Rattle.gp_replay.proofs.same_rows.are_same.Goals as goal

pub loop-at-init : goal.loop-at-init
loop-at-init c = λ all. all

pub loop-at-preserved : goal.loop-at-preserved
loop-at-preserved c =
    goes-on (slice_get c.args.spans.now) (slice_get c.args.others.now) c.args.places.now c.args.other_places.now c.loop-at.at (c.is_same_next-same.ensures c.if-not-same.false) c.loop-at.invariant

pub returns : goal.returns
returns c = λ yes.
    all-same (slice_get c.args.spans.now) (slice_get c.args.others.now) c.args.places.now c.args.other_places.now c.loop-at.at c.loop-at-test.false c.if-at-other_places.false c.loop-at.invariant
