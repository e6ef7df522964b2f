use Rattle.std.proofs.Common.{◌∙◌, ap, arith, length, sym}
use Rattle.gp_serial.specs.Comparing.{ends_same}
use Rattle.gp_serial.specs.Running.{are_equal, rows_at}
use Rattle.gp_serial.proofs.ComparingLemmas.{fails_first, spans_there}
use Rattle.gp_serial.proofs.serializing.ends_same.Goals as goal

pub returns-then-not-are_equal : goal.returns-then-not-are_equal
returns-then-not-are_equal c =
    let versions = c.args.versions.now in
    let made = c.args.made.now in
    let place = c.loop-place.place in
    let own = c.deref.ensures.value ∙ c.in_ok-rows.ensures ∙ ap (rows_at c.args.version) (spans_there versions place c.index-versions-place.result c.loop-place-test.true c.index-versions-place.is) in
    let other = c.deref-in-loop-place.ensures.value ∙ c.in_ok-others.ensures
    ∙ ap (rows_at c.args.last) (spans_there made place c.index-made-place.result (omega (arith, c.loop-place-test.true, c.requires)) c.index-made-place.is) in
    sym (fails_first (ends_same c.args.version c.args.last versions made) (length versions) place c.loop-place-test.true
    (sym (c.are_equal.ensures ∙ (λ i. are_equal (own i) (other i))) ∙ c.if-not-are_equal.true))
