-- The spans of the rows that have a slot.
use Rattle.std.proofs.Common.{◌≡◌, ℕ, not, List, map}
use Rattle.std.specs.List.{filter}
use Rattle.gp_base.specs.Annotated.{unannotated}
use Rattle.gp_versions.specs.declared.span.Span.{Span}
use Rattle.gp_versions.specs.Spans.{row_of, rows_at, spans_at}
use Rattle.gp_txn.specs.declared.carried.Carried.{Carried}
use Rattle.gp_txn.specs.Overlay.{PlainRow, is_carried, slotted, slotted_spans}
use Rattle.gp_base.proofs.SmallLemmas.{filter-map}

-- of the spans of a version, those of rows with a slot
abbrev pub free_spans : List Carried → List Span → List Span
free_spans carried spans = filter (λ (span : Span). not (is_carried carried span.id)) spans

-- they are the rows of these spans
pub rows-spans : (carried : List Carried) (v : ℕ) (spans : List Span) → slotted carried (rows_at unannotated v spans) ≡ map (row_of unannotated) (slotted_spans carried v spans)
rows-spans carried v spans = filter-map (λ (row : PlainRow). not (is_carried carried row.identity)) (row_of unannotated) (spans_at v spans)
