use Rattle.std.proofs.Common.{◌≡◌, ◌+◌, ◌∷◌, ◌++◌, drop, get_or, ap, sym, subst, ◌∙◌}
use Rattle.std.specs.List.{flat_map}
use Rattle.std.proofs.lemmas.List.{append-nil, drop_all, drop_more}
use Rattle.gp_txn.specs.Changes.{change_view}
use Rattle.gp_txn.specs.Enough.{first_at, slotted_at}
use Rattle.gp_txn.specs.Passes.{made_of_place, made_of_slot, row_entry}
use Rattle.gp_txn.proofs.ChangedLemmas.{changed-places}
use Rattle.gp_txn.proofs.PlacedLemmas.{IsAhead, ahead-first, ahead-more, pass-more}
use Rattle.gp_txn.proofs.update.written_slots.Goals as goal

pub loop-place-preserved : goal.loop-place-preserved
loop-place-preserved c =
    let change = change_view c.args.change.now in
    let slots = c.args.slots.now in
    let carried = c.args.carried.now in
    let spans = c.args.spans.now in
    let places = c.args.places.now in
    let v = c.args.v in
    let index = c.loop-place.place-index in
    let place = get_or places index 0 in
    let rest = drop (index + 1) places in
    let is : drop index places ≡ place ∷ rest = drop_more places index 0 c.loop-place-test.true in
    let held = c.loop-place.invariant.ahead in
    let same = ap (λ ahead. made_of_slot (row_entry change place) (first_at place ahead) (slotted_at carried v spans place)) c.seek-ahead.ensures
    ∙ ap (λ slot. made_of_slot (row_entry change place) slot (slotted_at carried v spans place)) (ahead-first slots c.loop-place.ahead.now place rest (drop index places) is held) in
    record {
      rest = rw c.in_ok-push_place.ensures (pass-more (made_of_place (row_entry change) carried v slots spans) place rest (drop index places) is c.loop-place.new.items _ same ∙ c.loop-place.invariant.rest);
      ahead = subst (λ ahead. IsAhead slots ahead rest) (sym c.seek-ahead.ensures) (ahead-more slots c.loop-place.ahead.now place rest (drop index places) is held);
    }

pub returns : goal.returns
returns c =
    let change = change_view c.args.change.now in
    let slots = c.args.slots.now in
    let carried = c.args.carried.now in
    let spans = c.args.spans.now in
    let places = c.args.places.now in
    sym (append-nil c.loop-place.new.items)
    ∙ ap (λ rest. c.loop-place.new.items ++ flat_map (made_of_place (row_entry change) carried c.args.v slots spans) rest) (sym (drop_all c.loop-place.place-index places c.loop-place-test.false))
    ∙ c.loop-place.invariant.rest
    ∙ changed-places change carried c.args.v spans slots places c.requires.enough
