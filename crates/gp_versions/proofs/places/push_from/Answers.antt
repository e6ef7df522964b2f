use Rattle.std.proofs.Common.{[], ◌∷◌, ◌++◌, ◌-◌, ap, sym, ◌∙◌, arith}
use Rattle.std.specs.List.{range_with_len}
use Rattle.std.proofs.lemmas.List.{append_assoc}
use Rattle.gp_versions.specs.Search.{among, is_sought}
use Rattle.gp_versions.proofs.PlaceLemmas.{among-append, range-next}
use Rattle.gp_versions.proofs.places.push_from.Goals as goal

pub loop-place-preserved : goal.loop-place-preserved
loop-place-preserved c =
    let p = is_sought c.args.sought.now in
    let spans = c.args.spans.now in
    let from = c.args.from in
    let place = c.loop-place.place in
    let some = range_with_len from (place - from) in
    c.in_ok-push_listed.ensures
    ∙ ap (λ found. found ++ among p spans (place ∷ [])) c.loop-place.invariant
    ∙ append_assoc c.args.found.now.items (among p spans some) (among p spans (place ∷ []))
    ∙ ap (λ more. c.args.found.now.items ++ more) (sym (among-append p spans some (place ∷ [])) ∙ ap (among p spans) (sym (range-next from place (omega (arith, c.loop-place.auto.place, c.in-Ok.ensures)))))
