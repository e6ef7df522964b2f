use Rattle.std.proofs.Common.{ap, arith, length, ◌+◌, ◌≡◌, ◌∙◌}
use Rattle.gp_txn.specs.declared.overlay.TableWrites.{TableWrites}
use Rattle.gp_txn.specs.Overlay.{overlay_of}
use Rattle.gp_txn.specs.Transactions.{table_at, view_at, writes_at}
use Rattle.gp_txn.proofs.RoomLemmas.{left-room, view-at-few}
use Rattle.gp_txn.proofs.active.Active.sure_room.Goals as goal

pub returns : goal.returns
returns c =
    let writes = writes_at c.args.table c.args.self.now.tables in
    let spans = (table_at c.args.table c.args.versions.now).spans in
    let same : writes.version ≡ c.args.version = rw c.writes-writes.ensures.writes at c.if-writes-version.false in
    let carried = ap length (c.as_slice.ensures ∙ ap (λ (w : TableWrites). w.carried) c.writes-writes.ensures.writes) in
    let own = ap length (c.as_slice-2.ensures ∙ ap (λ (w : TableWrites). w.own) c.writes-writes.ensures.writes) in
    let few = view-at-few c.args.version (overlay_of spans writes) spans same in
    left-room c.checked_sub-2.result c.span_count.result c.in_ok-room.room (length c.as_slice.result.now + length c.as_slice-2.result.now)
    (length (view_at c.args.self.now.tables c.args.versions.now c.args.version c.args.table)) c.checked_sub-2.ensures c.in_ok-room.ensures (omega (arith, few, carried, own, c.span_count.ensures))
