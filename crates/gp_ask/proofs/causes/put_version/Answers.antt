use Rattle.std.proofs.Common.{suc, ◌<◌, arith}
use Rattle.std.proofs.lemmas.Option.{slice_get-get_or}
use Rattle.gp_ask.proofs.CausesLemmas.{all-put, put-next}
use Rattle.gp_ask.proofs.causes.put_version.Goals as goal

pub loop-place-preserved : goal.loop-place-preserved
loop-place-preserved c =
    put-next c.args.asked.now c.args.writes.now c.args.before (suc c.args.before) c.loop-place.place c.loop-place.lines c.loop-place.invariant _
    (slice_get-get_or c.args.writes.now c.loop-place.place _ c.loop-place-test.true) (omega (arith, c.if-write-before.false)) c.in_ok-line.line c.in_ok-line.ensures

pub returns : goal.returns
returns c =
    all-put c.args.asked.now c.args.writes.now c.args.before (suc c.args.before) c.loop-place.place c.loop-place.lines c.loop-place-test.false c.loop-place.invariant
