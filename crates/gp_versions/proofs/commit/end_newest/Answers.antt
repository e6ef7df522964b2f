use Rattle.std.proofs.Common.{◌<◌, ap, get_or, length, ◌∙◌, arith}
use Rattle.std.specs.Prelude.{slice_set}
use Rattle.std.proofs.lemmas.List.{length-map}
use Rattle.std.proofs.lemmas.Option.{slice_get-get_or}
use Rattle.gp_versions.specs.declared.span.Span.{Span}
use Rattle.gp_versions.specs.Chains.{entered}
use Rattle.gp_versions.specs.Keys.{key_of}
use Rattle.gp_versions.proofs.EndLemmas.{end-at, end-none}
use Rattle.gp_versions.proofs.commit.end_newest.Goals as goal

pub returns-in_default : goal.returns-in_default
returns-in_default c = end-none (entered c.args.chains.now) c.args.version c.args.write.now c.args.spans.now (rw c.in_default.is at c.newest_of.ensures)

pub returns : goal.returns
returns c =
    let spans = c.args.spans.now in
    let place = c.in-Some.place in
    let last = rw c.in-Some.is at c.newest_of.ensures in
    let within : place < length spans = omega (arith, last.at.0, c.requires.chained.within, length-map spans (λ (span : Span). key_of span.id)) in
    ap (slice_set spans place) c.end_open.ensures
    ∙ end-at (entered c.args.chains.now) c.args.version c.args.write.now spans place (get_or spans place c.index-spans-place.result) c.requires.apart last
    (slice_get-get_or spans place c.index-spans-place.result within)
