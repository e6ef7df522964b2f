use Rattle.std.proofs.Common.{◌≡◌, ◌+◌, ◌∷◌, ◌++◌, drop, get_or, refl, ap, sym, subst, ◌∙◌}
use Rattle.std.specs.List.{flat_map}
use Rattle.std.specs.Option.{option_map}
use Rattle.std.proofs.lemmas.List.{append-nil, drop_all, drop_more}
use Rattle.gp_expr.specs.Views.{cond_view}
use Rattle.gp_txn.specs.Enough.{first_at, slotted_at}
use Rattle.gp_txn.specs.Passes.{made_of_place, made_of_slot, row_wanted}
use Rattle.gp_txn.proofs.PlacedLemmas.{IsAhead, ahead-all, ahead-first, ahead-more, anywhere, pass-more}
use Rattle.gp_txn.proofs.ViewLemmas.{wanted-places}
use Rattle.gp_txn.proofs.snapshot.seen_rows.Goals as goal

pub loop-place-preserved : goal.loop-place-preserved
loop-place-preserved c =
    let wanted = option_map (λ c. cond_view c.now) c.args.cond in
    let slots = c.args.slots.now in
    let carried = c.args.carried.now in
    let spans = c.args.spans.now in
    let places = c.args.places.now in
    let v = c.args.v in
    let index = c.loop-place.place-index in
    let place = get_or places index 0 in
    let rest = drop (index + 1) places in
    let is : drop index places ≡ place ∷ rest = drop_more places index 0 c.loop-place-test.true in
    let held = c.loop-place.invariant.ahead in
    let same = ap (λ ahead. made_of_slot (row_wanted wanted) (first_at place ahead) (slotted_at carried v spans place)) c.seek-ahead.ensures
    ∙ ap (λ slot. made_of_slot (row_wanted wanted) slot (slotted_at carried v spans place)) (ahead-first slots c.loop-place.ahead.now place rest (drop index places) is held) in
    record {
      rest = rw c.in_ok-push_place.ensures (pass-more (made_of_place (anywhere (row_wanted wanted)) carried v slots spans) place rest (drop index places) is c.loop-place.rows _ same ∙ c.loop-place.invariant.rest);
      ahead = subst (λ ahead. IsAhead slots ahead rest) (sym c.seek-ahead.ensures) (ahead-more slots c.loop-place.ahead.now place rest (drop index places) is held);
    }

pub loop-place-init : goal.loop-place-init
loop-place-init c = record { rest = rw c.new-rows.ensures refl; ahead = ahead-all c.args.slots.now c.args.places.now c.requires.ascending c.requires.enough.ascending }

pub returns : goal.returns
returns c =
    let wanted = option_map (λ c. cond_view c.now) c.args.cond in
    let slots = c.args.slots.now in
    let carried = c.args.carried.now in
    let spans = c.args.spans.now in
    let places = c.args.places.now in
    sym (append-nil c.loop-place.rows)
    ∙ ap (λ rest. c.loop-place.rows ++ flat_map (made_of_place (anywhere (row_wanted wanted)) carried c.args.v slots spans) rest) (sym (drop_all c.loop-place.place-index places c.loop-place-test.false))
    ∙ c.loop-place.invariant.rest
    ∙ wanted-places wanted carried c.args.v spans slots places c.requires.enough
