use Rattle.std.proofs.Common.{refl, ◌≡◌, arith, List, length, ap, ◌∙◌}
use Rattle.std.proofs.lemmas.List.{get_or_read_under}
use Rattle.gp_base.specs.Annotated.{unannotated}
use Rattle.gp_versions.specs.declared.span.Span.{Span}
use Rattle.gp_versions.specs.Commits.{live_rows}
use Rattle.gp_versions.specs.Spans.{Versions}
use Rattle.gp_txn.specs.declared.overlay.TableWrites.{TableWrites}
use Rattle.gp_txn.specs.Committing.{commit_of}
use Rattle.gp_txn.specs.Overlay.{no_writes, overlay_of, rows_below, table_writes}
use Rattle.gp_txn.specs.Transactions.{no_table, table_at, writes_at}
use Rattle.gp_txn.proofs.CountLemmas.{over-here}
use Rattle.gp_txn.proofs.span_count.is_full.Goals as goal
use Rattle.gp_txn.proofs.span_count.is_full.Goals.{then-old-left-via-then-old-left, then-old-left-via-else-old-left+then-new-left}

pub returns-then-old-left : goal.returns-then-old-left
returns-then-old-left c =
    let versions = c.args.versions.now in
    let tables = c.args.tables.now in
    let place = c.loop-place.place in
    let here : c.index-versions-place.result ≡ table_at place versions =
    get_or_read_under versions place (length versions) c.index-versions-place.result no_table c.index-versions-place.is (omega arith) refl in
    let own : c.index-tables-place.result ≡ writes_at place tables =
    get_or_read_under tables place (length tables) c.index-tables-place.result (no_writes 0) c.index-tables-place.is (omega (arith, c.requires)) refl in
    let old : c.len-old.result ≡ length (table_at place versions).spans = c.len-old.ensures ∙ ap (λ (k : Versions). length k.spans) here in
    let new : c.count_live-new.result ≡ length (live_rows unannotated (commit_of tables versions place)) =
    c.count_live-new.ensures
    ∙ (ap (λ (w : TableWrites). length (live_rows unannotated (table_writes (overlay_of c.as_list-spans.result w) (rows_below (overlay_of c.as_list-spans.result w) c.as_list-spans.result)))) own
    ∙ ap (λ (spans : List Span). length (live_rows unannotated (table_writes (overlay_of spans (writes_at place tables)) (rows_below (overlay_of spans (writes_at place tables)) spans)))) (c.as_list-spans.ensures.spans ∙ ap (λ (k : Versions). k.spans) here)) in
    elim c.then-old-left.branch [
      | then-old-left-via-then-old-left w ↦ over-here versions (commit_of tables versions) place (length versions) c.loop-place.left c.len-old.result c.count_live-new.result old new c.loop-place.invariant (omega arith) (omega (arith, w.if-old-left.true))
      | then-old-left-via-else-old-left+then-new-left w ↦ over-here versions (commit_of tables versions) place (length versions) c.loop-place.left c.len-old.result c.count_live-new.result old new c.loop-place.invariant (omega arith) (omega (arith, w.if-old-left.false, w.if-new-left.true))
    ]
