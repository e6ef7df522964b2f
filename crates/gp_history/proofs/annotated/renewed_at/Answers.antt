use Rattle.std.proofs.Common.{ℕ}
use Rattle.std.specs.Prelude.{slice_index_or}
use Rattle.gp_history.proofs.RenewingLemmas.{renews_all, renews_first, renews_next, renews_past}
use Rattle.gp_history.proofs.SeekingLemmas.{read}
use Rattle.gp_history.proofs.annotated.renewed_at.Goals as goal

pub loop-place-init : goal.loop-place-init
loop-place-init g c = renews_first (g.N.Annotator.domain c.args.annotator.now).one c.args.version c.args.found.now c.args.spans.now c.args.annotations.items c.args.places.now

pub loop-place-preserved-then-at-spans : goal.loop-place-preserved-then-at-spans
loop-place-preserved-then-at-spans g c =
    let places = c.args.places.now in
    let at : ℕ = slice_index_or places c.loop-place.place-index 0 in
    renews_past (g.N.Annotator.domain c.args.annotator.now).one c.args.version c.args.found.now c.args.spans.now c.args.annotations.items c.loop-place.annotations.items c.args.places.now
    c.loop-place.place-index at c.loop-place-test.true (read places c.loop-place.place-index 0 at c.loop-place-test.true) c.if-at-spans.true c.loop-place.invariant

pub loop-place-preserved : goal.loop-place-preserved
loop-place-preserved g c =
    let places = c.args.places.now in
    let at : ℕ = slice_index_or places c.loop-place.place-index 0 in
    renews_next (g.N.Annotator.domain c.args.annotator.now).one c.args.version c.args.found.now c.args.spans.now c.args.annotations.items c.loop-place.annotations.items c.renew_span.new.annotations.items c.args.places.now
    c.loop-place.place-index at c.index-spans-at.result c.loop-place-test.true (read places c.loop-place.place-index 0 at c.loop-place-test.true) c.if-at-spans.false c.index-spans-at.is c.in_ok-renew_span.ensures c.loop-place.invariant

pub returns : goal.returns
returns g c =
    renews_all (g.N.Annotator.domain c.args.annotator.now).one c.args.version c.args.found.now c.args.spans.now c.args.annotations.items c.loop-place.annotations.items c.args.places.now c.loop-place.place-index
    c.requires c.loop-place-test.false c.loop-place.invariant
