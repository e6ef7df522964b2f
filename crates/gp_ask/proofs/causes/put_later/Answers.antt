use Rattle.std.proofs.lemmas.Option.{slice_get-get_or}
use Rattle.gp_ask.proofs.CausesLemmas.{all-put, keep-next, put-next}
use Rattle.gp_ask.proofs.causes.put_later.Goals as goal

pub loop-place-preserved-then-write-before : goal.loop-place-preserved-then-write-before
loop-place-preserved-then-write-before c = λ limit.
    keep-next c.args.asked.now c.args.writes.now c.args.before limit c.loop-place.place c.loop-place.lines (c.loop-place.invariant limit) _
    (slice_get-get_or c.args.writes.now c.loop-place.place _ c.loop-place-test.true) (λ within. c.if-write-before.true)

pub loop-place-preserved : goal.loop-place-preserved
loop-place-preserved c = λ limit.
    put-next c.args.asked.now c.args.writes.now c.args.before limit c.loop-place.place c.loop-place.lines (c.loop-place.invariant limit) _
    (slice_get-get_or c.args.writes.now c.loop-place.place _ c.loop-place-test.true) c.if-write-before.false c.in_ok-line.line c.in_ok-line.ensures

pub returns : goal.returns
returns c = λ versions. all-put c.args.asked.now c.args.writes.now c.args.before versions c.loop-place.place c.loop-place.lines c.loop-place-test.false (c.loop-place.invariant versions)
