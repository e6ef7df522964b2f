use Rattle.std.proofs.Common.{◌≡◌, ◌++◌, ◌+◌, arith, ap, length, reverse, slice_get, Some, sym, ◌∙◌, subst, map}
use Rattle.std.proofs.lemmas.List.{append-nil}
use Rattle.gp_txn.specs.Ascending.{IsAscending, place_of}
use Rattle.gp_txn.specs.Enough.{seek}
use Rattle.gp_txn.specs.Slots.{put_all}
use Rattle.gp_txn.proofs.ChangedLemmas.{put-ascending, put-lifted}
use Rattle.gp_txn.proofs.PlacedLemmas.{seek-few}
use Rattle.gp_txn.proofs.slots.Slots.put_all.Goals as goal

pub lift-requires-clause-within : goal.lift-requires-clause-within
lift-requires-clause-within c =
    let few = seek-few c.in-Some.first.now.place c.deref-2.result.now in
    omega (arith, few, ap length c.seek-count.ensures, c.deref-2.ensures.len, c.in_ok-reserve.ensures.len)

pub invariant_of-self-2 : goal.invariant_of-self-2
invariant_of-self-2 c =
    let old = c.self.inside.list.items in
    let first = c.in-Some.first.now in
    let is : slice_get c.args.new.items 0 ≡ Some first = sym (c.in-Some.ensures.value ∙ ap (λ xs. slice_get xs 0) c.deref.ensures.value) in
    let same = c.lift.ensures.items ∙ (λ i. c.in_ok-reserve.ensures.items i ++ reverse (c.in_ok-behind.ensures.items i)) ∙ append-nil old in
    let sought = ap length (c.seek-count.ensures ∙ ap (seek first.place) c.deref-2.ensures.value) in
    let count : length c.lift.new.list.items + length (seek first.place old) ≡ length old = omega (arith, sought, c.lift.ensures.front, ap length c.in_ok-reserve.ensures.items) in
    let now = c.put_lifted.ensures ∙ put-lifted c.args.new.items c.lift.new.list.items (reverse c.lift.new.behind.items) old first is same count in
    subst (λ xs. IsAscending (map place_of xs)) (sym now) (put-ascending c.args.new.items old c.requires c.self.invariant)

pub returns-clause-ok : goal.returns-clause-ok
returns-clause-ok c =
    let old = c.self.inside.list.items in
    let first = c.in-Some.first.now in
    let is : slice_get c.args.new.items 0 ≡ Some first = sym (c.in-Some.ensures.value ∙ ap (λ xs. slice_get xs 0) c.deref.ensures.value) in
    let same = c.lift.ensures.items ∙ (λ i. c.in_ok-reserve.ensures.items i ++ reverse (c.in_ok-behind.ensures.items i)) ∙ append-nil old in
    let sought = ap length (c.seek-count.ensures ∙ ap (seek first.place) c.deref-2.ensures.value) in
    let count : length c.lift.new.list.items + length (seek first.place old) ≡ length old = omega (arith, sought, c.lift.ensures.front, ap length c.in_ok-reserve.ensures.items) in
    c.put_lifted.ensures ∙ put-lifted c.args.new.items c.lift.new.list.items (reverse c.lift.new.behind.items) old first is same count ∙ ap (put_all c.args.new.items) c.self.view_is
