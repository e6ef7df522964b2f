-- Machinery: computed rows and the spans of a version, taken one after another from the front.
use Rattle.std.specs.Prelude.{ℕ, List, ◌∷◌, ◌++◌, drop, map, Option, Some, None}
use Rattle.std.specs.List.Sorted.{IsPermutation}
use Rattle.gp_base.specs.declared.cell.Cell.{Cell}
use Rattle.gp_base.specs.Annotated.{unannotated}
use Rattle.gp_kexec.specs.declared.held.Held.{Held}
use Rattle.gp_versions.specs.declared.span.Span.{Span}
use Rattle.gp_versions.specs.Spans.{row_of, rows_at}
use Rattle.gp_history.specs.Agreement.{key_of}
use Rattle.gp_history.specs.Noted.{held_key}
use Rattle.gp_history.specs.declared.matching.Places.{Places}

-- the keys of the rows from these places on
abbrev pub keys_from : {M : Type 0} → List (Held M) → List (Held M) → Places → List (List Cell)
keys_from kept written at = map held_key (drop at.kept kept) ++ map held_key (drop at.written written)

-- the key of the row of a span
abbrev pub span_key : Span → List Cell
span_key span = key_of (row_of unannotated span)

-- the keys of the rows that a version has of these spans
abbrev pub keys_of : ℕ → List Span → List (List Cell)
keys_of version spans = map key_of (rows_at unannotated version spans)

-- The row of a span was found: if the rows behind it are those of other spans, then with it they are those of all.
abbrev pub TakesRow : {M : Type 0} → List (Held M) → List (Held M) → Places → ℕ → Span → Option Places → Type 0
TakesRow kept written at version span None = Unit {0}
TakesRow kept written at version span (Some next) = (others : List Span) → IsPermutation (keys_from kept written next) (keys_of version others)
    → IsPermutation (keys_from kept written at) (keys_of version (span ∷ others))
