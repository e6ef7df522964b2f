use Rattle.std.proofs.Common.{◌≡◌, ◌+◌, [], ◌∷◌, true, map, ap, ◌∙◌}
use Rattle.std.proofs.lemmas.List.{length-append}
use Rattle.gp_algebra.specs.Views.{select_view}
use Rattle.gp_versions.specs.TableSpans.{NoOverlap}
use Rattle.gp_txn.specs.Inserting.{reads_table}
use Rattle.gp_txn.specs.Overlay.{stored_of}
use Rattle.gp_txn.specs.Transactions.{table_at, view_at}
use Rattle.gp_txn.specs.Wanted.{row_where, wanted}
use Rattle.gp_txn.proofs.ReadLemmas.{each-more, up-to}
use Rattle.gp_txn.proofs.active.Active.views.Goals as goal

pub loop-place-preserved : goal.loop-place-preserved
loop-place-preserved c =
    let tables = c.loop-place.tables in
    let rows = c.in_ok-view_read.field-0 in
    let select = select_view c.args.select.now in
    let held = c.loop-place.invariant in
    record {
      len = rw c.in_ok-push.ensures.ok (length-append tables (rows ∷ []) ∙ ap (λ n. n + 1) held.len);
      each = rw c.in_ok-push.ensures.ok
          (each-more (λ p some. reads_table p select ≡ true → some ≡ map stored_of (wanted (row_where select) (view_at c.args.self.now.tables c.args.versions.now c.args.version p))) tables rows c.loop-place.place held.len held.each
          c.in_ok-view_read.ensures.rows);
      apart = up-to (λ p. NoOverlap (table_at p c.args.versions.now).spans) c.loop-place.place held.apart c.view_read.ensures.apart;
    }
