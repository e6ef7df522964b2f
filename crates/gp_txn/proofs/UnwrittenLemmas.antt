-- Nothing is written yet: what is seen is what the versions have, and no row has a base.
use Rattle.std.proofs.Common.{◌≡◌, ℕ, true, false, cond, List, [], ◌∷◌, ◌++◌, map, None, refl, ap, ◌∙◌}
use Rattle.std.specs.Prelude.{◌==◌}
use Rattle.std.specs.List.{filter}
use Rattle.std.specs.Option.{is_none}
use Rattle.gp_base.specs.Annotated.{unannotated}
use Rattle.gp_base.specs.Identities.{Identity}
use Rattle.gp_txn.specs.Bases.{base_after, base_of, refreshed, table_view}
use Rattle.gp_txn.specs.Overlay.{PlainRow, no_writes, overlaid, overlay_of, slots_from, view_rows}
use Rattle.gp_txn.specs.Transactions.{IsUnwritten}
use Rattle.gp_txn.specs.declared.overlay.TableWrites.{TableWrites}
use Rattle.gp_versions.specs.Commits.{is_written}
use Rattle.gp_versions.specs.Spans.{row_of, rows_at, spans_at}
use Rattle.gp_versions.specs.declared.span.Span.{Span}
use Rattle.gp_versions.specs.declared.span.Write.{Write}
use Rattle.gp_txn.proofs.PlacedLemmas.{none-same, overlaid-same, writes-same}

all-rows : (rows : List PlainRow) → filter (λ (row : PlainRow). true) rows ≡ rows
all-rows [] = refl
all-rows (row ∷ rows) = ap (λ (others : List PlainRow). row ∷ others) (all-rows rows)

no-marks : (spans : List Span) → filter (λ (row : PlainRow). row.mark) (map (row_of unannotated) spans) ≡ []
no-marks [] = refl
no-marks (span ∷ spans) = no-marks spans

and-none : (rows : List PlainRow) → rows ++ [] ≡ rows
and-none [] = refl
and-none (row ∷ rows) = ap (λ (others : List PlainRow). row ∷ others) (and-none rows)

-- what no writes show of rows, whatever the spans of the table are
no-overlay : (version : ℕ) (spans : List Span) (rows : List PlainRow) → view_rows (overlay_of spans (no_writes version)) rows ≡ rows
no-overlay version spans rows =
    and-none (overlaid (slots_from [] version [] 0 spans) (filter (λ (row : PlainRow). true) rows))
    ∙ overlaid-same (slots_from [] version [] 0 spans) (filter (λ (row : PlainRow). true) rows) (none-same [] version 0 spans)
    ∙ all-rows rows

no-base : (version : ℕ) (spans : List Span) (rows : List PlainRow) (id : Identity) → base_of (overlay_of spans (no_writes version)) rows id ≡ None
no-base version spans rows id =
    ap (λ (writes : List Write). base_after version (is_written writes id) None) (writes-same (slots_from [] version [] 0 spans) (filter (λ (row : PlainRow). true) rows) (none-same [] version 0 spans))

no-view : (begin version : ℕ) (spans : List Span) → table_view (overlay_of spans (no_writes begin)) spans version ≡ rows_at unannotated version spans
no-view begin version spans =
    elim (version == begin) as (λ b. cond b (view_rows (overlay_of spans (no_writes begin)) (rows_at unannotated version spans)) (refreshed (overlay_of spans (no_writes begin)) (rows_at unannotated begin spans) (rows_at unannotated version spans)) ≡ rows_at unannotated version spans) [
      | true ↦ no-overlay begin spans (rows_at unannotated version spans)
      | false ↦
          (λ i. filter (λ (row : PlainRow). is_none (no-base begin spans (rows_at unannotated begin spans) row.identity i)) (rows_at unannotated version spans)
          ++ filter (λ (row : PlainRow). row.mark) (no-overlay begin spans (rows_at unannotated begin spans) i))
          ∙ (λ i. all-rows (rows_at unannotated version spans) i ++ no-marks (spans_at begin spans) i)
          ∙ and-none (rows_at unannotated version spans)
    ]

pub unwritten-is : (version : ℕ) (writes : TableWrites) → IsUnwritten version writes → writes ≡ no_writes writes.version
unwritten-is version writes is = λ i. record { version = writes.version; slots = is.slots i; carried = is.carried i; own = is.own i }

-- it shows the rows of each version
pub unwritten-view : (begin version : ℕ) (writes : TableWrites) (spans : List Span) → IsUnwritten begin writes → table_view (overlay_of spans writes) spans version ≡ rows_at unannotated version spans
unwritten-view begin version writes spans is = ap (λ (own : TableWrites). table_view (overlay_of spans own) spans version) (unwritten-is begin writes is) ∙ no-view writes.version version spans

-- no row has a base
pub unwritten-base : (begin : ℕ) (writes : TableWrites) (spans : List Span) (rows : List PlainRow) (id : Identity) → IsUnwritten begin writes → base_of (overlay_of spans writes) rows id ≡ None
unwritten-base begin writes spans rows id is = ap (λ (own : TableWrites). base_of (overlay_of spans own) rows id) (unwritten-is begin writes is) ∙ no-base writes.version spans rows id
