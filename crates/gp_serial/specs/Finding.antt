-- Machinery: the rows that a statement changes, found in the row versions, where its transaction has not written their table before.
use Rattle.std.specs.Prelude.{◌≡◌, ℕ, ◌<◌, ◌≤◌, ◌==◌, ◌&&◌, Bool, false, List, Option, Some, None}
use Rattle.std.specs.Option.{option_map_or}
use Rattle.gp_base.specs.declared.cell.Cell.{Cell}
use Rattle.gp_expr.specs.Expressions.{Cond}
use Rattle.gp_expr.specs.Values.{passes}
use Rattle.gp_algebra.specs.Statements.{Statement, update, delete, target}
use Rattle.gp_machine.specs.Entries.{Log}
use Rattle.gp_versions.specs.Spans.{holds_at}
use Rattle.gp_versions.specs.declared.span.Span.{Span}
use Rattle.gp_serial.specs.Running.{keyed}

-- a statement writes the table
abbrev pub writes : ℕ → Statement → Bool
writes table statement = option_map_or (λ place. place == table) (target statement) false

abbrev pub writes_at : ℕ → Option Statement → Bool
writes_at table statement = option_map_or (writes table) statement false

-- none of the first statements of a transaction does, this many
abbrev pub IsUnwritten : Log → ℕ → ℕ → ℕ → Type 0
IsUnwritten log t table n = (k : ℕ) → 0 < k → k ≤ n → writes_at table (log.statement t k) ≡ false

-- where a statement looks for the rows that it changes
pub record Search : Type 0 where
  pub table : ℕ
  pub cond : Cond

abbrev pub search_of : Statement → Option Search
search_of (update table sets c) = Some (record { table = table; cond = c })
search_of (delete table c) = Some (record { table = table; cond = c })
search_of statement = None

-- the condition is true of the row of a span, which a version has
abbrev pub is_found : ℕ → Cond → Span → Bool
is_found version c span = holds_at version span && passes c span.row

-- the row of a span with its identity behind its cells
abbrev pub keyed_span : Span → List Cell
keyed_span span = keyed span.id span.row
