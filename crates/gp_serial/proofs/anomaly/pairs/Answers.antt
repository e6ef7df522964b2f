use Rattle.std.proofs.Common.{◌+◌, ◌++◌, ◌∙◌, ap, drop, get_or, refl}
use Rattle.gp_serial.specs.PairCycles.{pairs_to}
use Rattle.gp_serial.proofs.AnomalyLemmas.{pairs_more, pairs_start}
use Rattle.gp_serial.proofs.anomaly.pairs.Goals as goal

pub loop-place-init : goal.loop-place-init
loop-place-init c =
    let cycle = c.args.cycle.now in
    ap (λ own. own ++ pairs_to (get_or cycle 0 0) (drop 0 cycle)) c.in_ok-pairs.ensures.items ∙ pairs_start cycle

pub loop-place-preserved : goal.loop-place-preserved
loop-place-preserved c =
    let cycle = c.args.cycle.now in
    let place = c.loop-place.place in
    ap (λ own. own ++ pairs_to (get_or cycle 0 0) (drop (place + 1) cycle)) c.in_ok-push.ensures.items
    ∙ pairs_more (get_or cycle 0 0) cycle place c.loop-place.pairs.items (get_or cycle place 0) c.next_in.result refl c.loop-place-test.true refl c.next_in.ensures
    ∙ c.loop-place.invariant
