use Rattle.std.proofs.Common.{sym, None}
use Rattle.std.specs.List.{filter_map}
use Rattle.gp_txn.specs.Conflicts.{carried_late, lates, slot_lates}
use Rattle.gp_txn.specs.Overlay.{overlay_of, slotted_spans}
use Rattle.gp_txn.proofs.ConflictLemmas.{least-append, least-is}
use Rattle.gp_txn.proofs.conflict.table_conflict.Goals as goal

pub returns : goal.returns
returns c =
    let writes = c.args.writes.now in
    let spans = c.args.table.now.spans in
    let over = overlay_of spans writes in
    rw (
      c.in_ok-least_carried.ensures,
      c.in_ok-found.ensures,
      c.as_slice-slots.ensures.slots,
      c.as_list-spans.ensures.spans,
      c.as_slice.ensures,
      sym (least-append None (slot_lates over.slots (slotted_spans writes.carried writes.version spans)) (filter_map (carried_late spans) writes.carried)),
    )
    (least-is (lates over spans))
