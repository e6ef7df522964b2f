use Rattle.std.proofs.Common.{◌≡◌, List, length, ap, arith, ◌∙◌}
use Rattle.std.specs.List.{filter_map}
use Rattle.gp_base.specs.Annotated.{unannotated}
use Rattle.gp_txn.specs.declared.overlay.Placed.{Placed}
use Rattle.gp_txn.specs.Overlay.{base_writes, carried_row, overlay_of, rows_below, slots_from, slotted}
use Rattle.gp_versions.specs.Commits.{live_rows}
use Rattle.gp_txn.proofs.PutLemmas.{live-counted}
use Rattle.gp_txn.proofs.span_count.count_live.Goals as goal

pub returns : goal.returns
returns c =
    let writes = c.args.writes.now in
    let spans = c.args.spans.now in
    let over = overlay_of spans writes in
    let below = rows_below over spans in
    let base : c.count_base-base.result ≡ length (live_rows unannotated (base_writes over.slots (slotted writes.carried below))) =
    c.count_base-base.ensures.count
    ∙ ap (λ (placed : List Placed). length (live_rows unannotated (base_writes (slots_from writes.carried writes.version placed 0 spans) (slotted writes.carried below)))) c.as_slice.ensures.slots in
    omega (arith, base, c.count_carried.ensures.count, ap (λ rows. length (filter_map carried_row rows)) c.as_slice-2.ensures, ap length c.as_slice-3.ensures, live-counted over below)
