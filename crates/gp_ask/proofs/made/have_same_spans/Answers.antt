use Rattle.std.proofs.Common.{◌≡◌, ◌<◌, ◌∙◌, List, ℕ, length, map, sym, ap, subst, arith}
use Rattle.std.specs.List.{All, slice_get}
use Rattle.gp_base.specs.Order.{sorted_by}
use Rattle.gp_dump.proofs.SortLemmas.{places-within, spans-in-order}
use Rattle.gp_versions.specs.Spans.{span_cmp}
use Rattle.gp_ask.proofs.MadeSpans.{as-many, somes-same, sorted-moved}
use Rattle.gp_ask.proofs.made.have_same_spans.Goals as goal

pub are_same_at-requires : goal.are_same_at-requires
are_same_at-requires c =
    let spans = c.args.table.now.spans in
    let others = c.args.other.now.spans in
    let first = as-many spans c.in_ok-places.places.items c.in_ok-places.ensures.places in
    let second = as-many others c.in_ok-others.others.items c.in_ok-others.ensures.places in
    record {
      within = subst (λ (places : List ℕ). All (λ place. place < length spans) places) (sym c.deref.ensures.value) (places-within spans c.in_ok-places.places.items c.in_ok-places.ensures.places);
      others = subst (λ (places : List ℕ). All (λ place. place < length others) places) (sym c.deref-2.ensures.value) (places-within others c.in_ok-others.others.items c.in_ok-others.ensures.places);
      same =
          ap length c.deref.ensures.value ∙ first ∙ sym c.len.ensures ∙ c.if-len.false ∙ c.len-2.ensures ∙ sym second
          ∙ ap length (sym c.deref-2.ensures.value);
    }

pub returns : goal.returns
returns c = λ yes.
    let spans = c.args.table.now.spans in
    let others = c.args.other.now.spans in
    let own = spans-in-order spans c.in_ok-places.places.items c.as_slice-spans.ensures.apart c.as_slice-spans.ensures.whole c.in_ok-places.ensures.places c.in_ok-places.ensures.sorted in
    let due = spans-in-order others c.in_ok-others.others.items c.as_slice-others.ensures.apart c.as_slice-others.ensures.whole c.in_ok-others.ensures.places c.in_ok-others.ensures.sorted in
    sorted-moved spans others
    (somes-same (sorted_by span_cmp spans) (sorted_by span_cmp others)
    (sym own ∙ ap (map (slice_get spans)) (sym c.deref.ensures.value) ∙ c.are_same_at.ensures yes ∙ ap (map (slice_get others)) c.deref-2.ensures.value ∙ due))
