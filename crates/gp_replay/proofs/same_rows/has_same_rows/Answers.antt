use Rattle.std.proofs.Common.{map, sym, ◌∙◌}
use Rattle.std.specs.Prelude.{slice_get}
use Rattle.gp_replay.proofs.SameLemmas.{same-order}
use Rattle.gp_replay.proofs.same_rows.has_same_rows.Goals as goal

pub returns : goal.returns
returns c = λ yes.
    same-order c.args.table.now.spans c.args.other.now.spans c.in_ok-places.places.items c.in_ok-other_places.other_places.items
    c.as_slice-spans.ensures.apart c.as_slice-spans.ensures.whole c.as_slice-others.ensures.apart c.as_slice-others.ensures.whole
    c.in_ok-places.ensures.places c.in_ok-places.ensures.sorted c.in_ok-other_places.ensures.places c.in_ok-other_places.ensures.sorted
    ((λ i. map (slice_get (sym c.as_slice-spans.ensures.spans i)) (sym c.deref.ensures.value i))
    ∙ c.are_same.ensures yes
    ∙ (λ i. map (slice_get (c.as_slice-others.ensures.spans i)) (c.deref-2.ensures.value i)))
