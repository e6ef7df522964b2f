-- Machinery: the bases of the rows that a running transaction has written, and what it sees at another version than the one that its
-- writes lie over. The base of a row is the version that the statement read which wrote the row first: a later statement that writes it again does
-- not move it.
use Rattle.std.specs.Prelude.{ℕ, Bool, ◌==◌, List, [], ◌∷◌, ◌++◌, filter, Option, Some, None, if◌then◌else◌}
use Rattle.std.specs.Option.{is_none}
use Rattle.gp_base.specs.Annotated.{unannotated}
use Rattle.gp_base.specs.Identities.{Identity, same_identity}
use Rattle.gp_txn.specs.declared.carried.Carried.{Carried}
use Rattle.gp_txn.specs.Overlay.{Overlay, PlainRow, rows_below, slot_writes, view_rows}
use Rattle.gp_versions.specs.declared.span.Span.{Span}
use Rattle.gp_versions.specs.Commits.{is_written}
use Rattle.gp_versions.specs.Spans.{rows_at}

-- ---- bases

-- the base of a row that it wrote over an earlier version
abbrev pub carried_base : List Carried → Identity → Option ℕ
carried_base [] id = None
carried_base (row ∷ rows) id = if same_identity row.id id then Some row.base else carried_base rows id

-- the base of a row, given the one before and whether a statement at this version wrote it
abbrev pub base_after : ℕ → Bool → Option ℕ → Option ℕ
base_after version wrote (Some base) = Some base
base_after version wrote None = if wrote then Some version else None

-- the base of a row of another transaction, if it has written the row
abbrev pub base_of : Overlay → List PlainRow → Identity → Option ℕ
base_of writes base id = base_after writes.version (is_written (slot_writes writes base) id) (carried_base writes.carried id)

-- ---- the view at a version

-- the rows of a version that it has not written, in order, and then the rows that it wrote and sees
abbrev pub refreshed : Overlay → List PlainRow → List PlainRow → List PlainRow
refreshed writes base rows = filter (λ row. is_none (base_of writes base row.identity)) rows ++ filter (λ row. row.mark) (view_rows writes base)

-- what it sees of a table at a version: in the order of its writes where they lie over the version
abbrev pub table_view : Overlay → List Span → ℕ → List PlainRow
table_view writes spans version =
    if version == writes.version then view_rows writes (rows_at unannotated version spans) else refreshed writes (rows_below writes spans) (rows_at unannotated version spans)
