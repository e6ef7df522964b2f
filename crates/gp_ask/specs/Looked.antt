-- Machinery: a statement that writes a table, and the rows by which one looks at it where its transaction does not stop.
use Rattle.std.specs.Prelude.{◌≡◌, ◌<◌, ◌≤◌, ◌-◌, ◌&&◌, ◌||◌, not, option_and_then, ℕ, Bool, true, false, List, length, Option, Some, None, slice_get}
use Rattle.gp_base.specs.declared.cell.Cell.{Cell}
use Rattle.gp_base.specs.declared.cell.Cell.TheVariants as cell
use Rattle.gp_base.specs.declared.refusal.Refusal.{Refusal}
use Rattle.gp_base.specs.Annotated.{Annotated, unannotated}
use Rattle.gp_base.specs.Identities.{Identity}
use Rattle.gp_algebra.specs.Statements.{Statement, insert, insert_select, target}
use Rattle.gp_algebra.specs.Views.{statement_view}
use Rattle.gp_compose.specs.Seen.{is_changed_by}
use Rattle.gp_dump.specs.Dumps.{Dump}
use Rattle.gp_grammar.specs.Syntax as y
use Rattle.gp_log.specs.Parameters.{parameters}
use Rattle.gp_machine.specs.Entries.{Entry, statement_at, statement_count}
use Rattle.gp_machine.specs.HistorySpans.{as_of}
use Rattle.gp_machine.specs.Questions.{is_known, own_stop}
use Rattle.gp_reenact.specs.LookingForms.{looked_rows}
use Rattle.gp_ask.specs.declared.looking.WritingStmt.{WritingStmt}
use Rattle.gp_ask.specs.Asking.{table_spans}

-- the log has it
pub record IsWriting (entries : List Entry) (writing : WritingStmt) : Type 0 where
  pub known : is_known writing.t entries ≡ true
  pub first : 0 < writing.k
  pub most : writing.k ≤ statement_count writing.t entries
  pub here : statement_at writing.t writing.k entries ≡ Some (statement_view writing.stmt.now)
  pub target : target (statement_view writing.stmt.now) ≡ Some writing.table

-- the statement of a number, if it writes a table
abbrev pub IsFound : ℕ → ℕ → List Entry → Option WritingStmt → Type 0
IsFound t k entries None = option_and_then target (statement_at t k entries) ≡ None
IsFound t k entries (Some writing) = (writing.t ≡ t) × ((writing.k ≡ k) × IsWriting entries writing)

-- the first stop of the first statements of a transaction, this many, and of all of them
abbrev pub stop_at : Dump → ℕ → ℕ → Option Refusal
stop_at dump t k = own_stop unannotated parameters dump.entries (y.after t k) (as_of unannotated (table_spans dump.tables))

abbrev pub stop_of : Dump → ℕ → Option Refusal
stop_of dump t = stop_at dump t (statement_count t dump.entries)

abbrev pub rows_of : Dump → ℕ → ℕ → Statement → List (Annotated (Unit {0}))
rows_of dump t k statement = looked_rows parameters dump.entries (table_spans dump.tables) t (k - 1) statement

-- an INSERT may pass a limit, no other statement does
abbrev pub may_stop : Statement → Bool
may_stop (insert table rows) = true
may_stop (insert_select table select) = true
may_stop statement = false

-- the statement of a number, if it may pass one
abbrev pub IsStopping : ℕ → ℕ → List Entry → Option WritingStmt → Type 0
IsStopping t k entries None = (statement : Statement) → statement_at t k entries ≡ Some statement → may_stop statement ≡ false
IsStopping t k entries (Some writing) = (writing.t ≡ t) × ((writing.k ≡ k) × IsWriting entries writing)

-- statements of these numbers pass no limit, whatever they read
abbrev pub NoneStops : ℕ → ℕ → ℕ → List Entry → Type 0
NoneStops t low high entries = (k : ℕ) → low < k → k ≤ high → (statement : Statement) → statement_at t k entries ≡ Some statement → may_stop statement ≡ false

-- the last statement that may pass one, or there is none
abbrev pub IsLastStopping : ℕ → List Entry → Option WritingStmt → Type 0
IsLastStopping t entries None = NoneStops t 0 (statement_count t entries) entries
IsLastStopping t entries (Some writing) = (writing.t ≡ t) × (IsWriting entries writing × NoneStops t writing.k (statement_count t entries) entries)

-- ---- a row with its identity and its mark behind its cells

abbrev pub as_mark : Option Cell → Bool
as_mark (Some (cell.Mark mark)) = mark
as_mark other = false

abbrev pub mark_of : List Cell → Bool
mark_of row = as_mark (slice_get row (length row - 1))

-- Whether the statement wrote a row by which one looks at it. An INSERT marks the rows that it makes; an older row with such an identity was written before.
abbrev pub is_written_by : ℕ → ℕ → Statement → Identity → List Cell → Bool
is_written_by t k statement id row = is_changed_by t k statement id && (not (may_stop statement) || mark_of row)
