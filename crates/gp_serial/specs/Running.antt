-- Of the contract of `shown`: what a statement does over row versions, as the code compares it.
use Rattle.std.specs.Prelude.{Vec, ◌≡◌, ◌≢◌, ℕ, zero, suc, ◌-◌, ◌<◌, ◌≤◌, ◌+◌, ◌^◌, Bool, true, false, List, [], ◌∷◌, ◌++◌, filter, length, map, take, slice_get, Option, Some, None, Result, Ok, Err}
use Rattle.std.specs.Cmp.Lexicographic.{slice_cmp}
use Rattle.std.specs.declared.alloc.Global.{Global}
use Rattle.std.specs.Option.{option_map, option_map_or}
use Rattle.std.specs.Ordering.{is_eq}
use Rattle.gp_base.specs.declared.cell.Cell.{Cell}
use Rattle.gp_base.specs.declared.cell.Cell.TheVariants as cell
use Rattle.gp_base.specs.declared.refusal.Refusal.{Refusal}
use Rattle.gp_base.specs.declared.refusal.Refusal.TheVariants.{E27}
use Rattle.gp_base.specs.Annotated.{Database, unannotated}
use Rattle.gp_base.specs.Identities.{Identity}
use Rattle.gp_base.specs.Order.{row_cmp, sorted_by}
use Rattle.gp_algebra.specs.Statements.{Statement}
use Rattle.gp_compose.specs.Seen.{is_changed_by}
use Rattle.gp_log.specs.Contents.{StatementsFit, entries, tables}
use Rattle.gp_log.specs.LogFitting.{SpansFit}
use Rattle.gp_log.specs.Logs.{Logged}
use Rattle.gp_log.specs.Parameters.{parameters}
use Rattle.gp_machine.specs.Entries.{Entry, log_of, statement_at, statement_count}
use Rattle.gp_machine.specs.Event.{is_over_answer}
use Rattle.gp_machine.specs.HistorySpans.{as_of}
use Rattle.gp_machine.specs.Points.{run_stop}
use Rattle.gp_machine.specs.Questions.{is_known, stop_refusal}
use Rattle.gp_machine.specs.Runs.{run_before}
use Rattle.gp_machine.specs.SerialRuns.{shown}
use Rattle.gp_reenact.specs.Reenacting.{spans_of}
use Rattle.gp_base.specs.declared.stop.Stop.{Stop}
use Rattle.gp_base.specs.declared.stop.Stop.TheVariants as reenact
use Rattle.gp_versions.specs.Spans.{Versions, holds_at}
use Rattle.gp_versions.specs.declared.span.Span.{Span}
use Rattle.gp_serial.specs.declared.error.SerialStop.{SerialStop}
use Rattle.gp_serial.specs.declared.error.SerialStop.TheVariants.{Refused, NoMemory}

-- a statement of a transaction of the log, and what is stored fits the tables
pub record IsAt (log : Logged) (versions : List Versions) (t k : ℕ) : Type 0 where
  pub known : is_known t (entries log) ≡ true
  pub first : 0 < k
  pub most : k ≤ statement_count t (entries log)
  pub few : k < 2 ^ 32
  pub statements : StatementsFit log
  pub spans : SpansFit (tables log) (spans_of versions)

-- ---- the rows of a statement

-- cells, and an identity behind them
abbrev pub keyed : Identity → List Cell → List Cell
keyed id cells = cells ++ cell.Id id ∷ []

abbrev pub IsTold : ℕ → ℕ → Statement → Database (Unit {0}) → Option (Vec (List Cell) Global) → Type 0
IsTold t k statement db (Some rows) = (is_over_answer unannotated parameters.answer statement db ≡ false) × (rows.items ≡ sorted_by row_cmp (shown t k statement db))
IsTold t k statement db None = is_over_answer unannotated parameters.answer statement db ≡ true

abbrev pub IsToldOf : Option Statement → ℕ → ℕ → Database (Unit {0}) → Option (Vec (List Cell) Global) → Type 0
IsToldOf None t k db found = Unit {0}
IsToldOf (Some statement) t k db found = IsTold t k statement db found

abbrev pub IsShown : List Entry → (ℕ → List Span) → ℕ → ℕ → Result (Option (Vec (List Cell) Global)) SerialStop → Type 0
IsShown entries spans t zero result = Unit {0}
IsShown entries spans t (suc before) (Ok found) =
    (run_stop unannotated parameters (log_of entries) t (suc before) (as_of unannotated spans) ≡ None)
    × IsToldOf (statement_at t (suc before) entries) t (suc before) (run_before unannotated (log_of entries) t before (as_of unannotated spans)) found
IsShown entries spans t (suc before) (Err (Refused refusal)) =
    option_map stop_refusal (run_stop unannotated parameters (log_of entries) t (suc before) (as_of unannotated spans)) ≡ Some refusal
IsShown entries spans t (suc before) (Err NoMemory) = Unit {0}

-- a stop of what one sees or looks at
abbrev pub IsStopOf : Stop → SerialStop → Type 0
IsStopOf (reenact.Refused refusal) stop = stop ≡ Refused refusal
IsStopOf reenact.NoMemory stop = stop ≡ NoMemory

-- none if an answer has too many rows
abbrev pub IsLimited : Refusal → Result (Option (Vec (List Cell) Global)) SerialStop → Type 0
IsLimited refusal (Ok None) = refusal ≡ E27
IsLimited refusal (Ok (Some rows)) = ⊥
IsLimited refusal (Err stop) = (stop ≡ Refused refusal) × (refusal ≢ E27)

abbrev pub IsUnanswered : Stop → Result (Option (Vec (List Cell) Global)) SerialStop → Type 0
IsUnanswered (reenact.Refused refusal) found = IsLimited refusal found
IsUnanswered reenact.NoMemory found = found ≡ Err NoMemory

-- ---- rows with an identity and a mark behind their cells

abbrev pub id_in : Option Cell → Option Identity
id_in (Some (cell.Id id)) = Some id
id_in _ = None

abbrev pub identity_of : List Cell → Option Identity
identity_of row = id_in (slice_get row (length row - 2))

abbrev pub unmarked : List Cell → List Cell
unmarked row = take (length row - 1) row

abbrev pub changed_of : ℕ → ℕ → Statement → List (List Cell) → List (List Cell)
changed_of t k statement rows =
    map unmarked (filter (λ row. option_map_or (λ id. is_changed_by t k statement id) (identity_of row) false) rows)

-- ---- the same rows

abbrev pub are_equal : List (List Cell) → List (List Cell) → Bool
are_equal rows others = is_eq (slice_cmp row_cmp rows others)

abbrev pub is_same : Option (Vec (List Cell) Global) → Option (Vec (List Cell) Global) → Bool
is_same (Some rows) (Some others) = are_equal rows.items others.items
is_same _ _ = false

-- the rows of a version, each with its identity
abbrev pub rows_at : ℕ → List Span → List (List Cell)
rows_at version spans = sorted_by row_cmp (map (λ (span : Span). keyed span.id span.row) (filter (holds_at version) spans))
