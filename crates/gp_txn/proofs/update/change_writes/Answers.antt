use Rattle.std.proofs.Common.{◌≡◌, List, ap, arith, length, map, sym, ◌∙◌}
use Rattle.std.specs.List.{filter_map}
use Rattle.gp_base.specs.declared.stored.Stored.{Stored}
use Rattle.gp_txn.specs.Changes.{change_view}
use Rattle.gp_txn.specs.Overlay.{carried_row, overlaid, overlay_of, own_row, rows_below, slotted}
use Rattle.gp_txn.specs.Slots.{count_touched, written_from}
use Rattle.gp_txn.specs.declared.carried.Carried.{Carried}
use Rattle.gp_txn.proofs.ChangedLemmas.{count-view, written-ascend, written-count}
use Rattle.gp_txn.proofs.update.change_writes.Goals as goal

pub written_slots-requires-clause-enough : goal.written_slots-requires-clause-enough
written_slots-requires-clause-enough c = rw (c.as_slice.ensures.slots, c.deref.ensures.value, sym c.cond.ensures) c.in_ok-places.ensures

pub put_all-requires : goal.put_all-requires
put_all-requires c = rw c.in_ok-slots.ensures (written-ascend (change_view c.args.change.now) c.args.writes.now.carried c.args.writes.now.version c.as_slice.result.now 0 c.args.spans.now)

pub returns-clause-count : goal.returns-clause-count
returns-clause-count c =
    let change = change_view c.args.change.now in
    let writes = c.args.writes.now in
    let spans = c.args.spans.now in
    let over = overlay_of spans writes in
    let all = count-view change over (rows_below over spans) in
    let slots : length c.in_ok-slots.slots.items ≡ count_touched change (overlaid over.slots (slotted writes.carried (rows_below over spans))) =
    ap length c.in_ok-slots.ensures ∙ ap (λ placed. length (written_from change writes.carried writes.version placed 0 spans)) c.as_slice.ensures.slots ∙ written-count change writes.carried writes.version writes.slots spans in
    let carried : c.in_ok-carried.carried.count ≡ count_touched change (filter_map carried_row writes.carried) =
    c.in_ok-carried.ensures.count ∙ ap (λ (rows : List Carried). count_touched change (filter_map carried_row rows)) c.as_slice-2.ensures in
    let own : c.in_ok-own.own.count ≡ count_touched change (map own_row writes.own) = c.in_ok-own.ensures.count ∙ ap (λ (own : List Stored). count_touched change (map own_row own)) c.as_slice-3.ensures in
    omega (arith, all, slots, carried, own, c.in_ok-count.ensures, c.len.ensures, c.in_ok-slots.slots.ok)
