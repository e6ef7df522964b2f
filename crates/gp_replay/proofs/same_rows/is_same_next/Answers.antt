use Rattle.std.proofs.Common.{get_or, sym, ◌∙◌}
use Rattle.std.specs.Prelude.{slice_get}
use Rattle.gp_replay.proofs.SameLemmas.{found-same, next-same}
use Rattle.gp_replay.proofs.same_rows.is_same_next.Goals as goal

pub returns-then-at-other_places : goal.returns-then-at-other_places
returns-then-at-other_places c = λ yes.
    let found = slice_get c.args.spans.now in
    let other_found = slice_get c.args.others.now in
    let place = get_or c.args.places.now c.args.at 0 in
    let other = get_or c.args.other_places.now c.args.at 0 in
    next-same found other_found c.args.places.now c.args.other_places.now c.args.at 0 0 c.requires c.if-at-other_places.true
    (found-same (found place) (other_found other) (sym c.is_same_at.ensures ∙ yes))
