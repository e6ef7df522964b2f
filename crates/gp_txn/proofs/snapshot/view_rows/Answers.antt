use Rattle.std.proofs.Common.{sym}
use Rattle.std.specs.Option.{option_map}
use Rattle.gp_expr.specs.Views.{cond_view}
use Rattle.gp_txn.specs.Overlay.{overlay_of, rows_below}
use Rattle.gp_txn.proofs.ViewLemmas.{view-stored}
use Rattle.gp_txn.proofs.snapshot.view_rows.Goals as goal

pub returns : goal.returns
returns c =
    let over = overlay_of c.args.spans.now c.args.writes.now in
    rw (c.in_ok-push_all_own.ensures, c.in_ok-push_all_carried.ensures, c.in_ok-rows.ensures, c.as_slice-slots.ensures.slots, c.as_slice.ensures, c.as_slice-2.ensures)
    (sym (view-stored (option_map (λ c. cond_view c.now) c.args.cond) over (rows_below over c.args.spans.now)))
