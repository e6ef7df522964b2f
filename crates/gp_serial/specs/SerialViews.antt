-- Of the contract of `serialize`: its answer as that of `Serializing`.
use Rattle.std.specs.Prelude.{◌≡◌, ℕ, ◌<◌, ◌^◌, ◌+◌, suc, nat_lt, List, [], ◌∷◌, get_or, length, map, if◌then◌else◌, Some, None, Result, Ok, Err}
use Rattle.std.specs.Option.{option_map}
use Rattle.gp_base.specs.declared.table.Table.{Table}
use Rattle.gp_base.specs.Annotated.{unannotated}
use Rattle.gp_log.specs.Contents.{StatementsFit, entries, tables}
use Rattle.gp_log.specs.LogFitting.{SpansFit}
use Rattle.gp_log.specs.Logs.{Logged}
use Rattle.gp_log.specs.Parameters.{parameters}
use Rattle.gp_log.specs.Sessions.{KeepsSessions}
use Rattle.gp_machine.specs.Entries.{Entry, log_of, statement_count, versions_in}
use Rattle.gp_machine.specs.HistorySpans.{as_of}
use Rattle.gp_machine.specs.Points.{run_stop}
use Rattle.gp_machine.specs.RowChanges.{RowChange, tables_changes}
use Rattle.gp_machine.specs.SerialRuns.{is_serial}
use Rattle.gp_reenact.specs.Reenacting.{spans_of}
use Rattle.gp_versions.specs.Spans.{Versions}
use Rattle.gp_serial.specs.declared.error.SerialStop.{SerialStop}
use Rattle.gp_serial.specs.declared.error.SerialStop.TheVariants.{Refused, NoMemory}
use Rattle.gp_serial.specs.declared.serializing.Serial.{Serial}
use Rattle.gp_serial.specs.declared.serializing.Serial.TheVariants as code
use Rattle.gp_serial.specs.declared.serializing.Step.{Step}
use Rattle.gp_serial.specs.Changes.{tables_of}
use Rattle.gp_serial.specs.Preceding.{AreGrouped}
use Rattle.gp_serial.specs.Reasons.{reason_view}
use Rattle.gp_serial.specs.Serializing as s
use Rattle.gp_serial.specs.Serializing.{runs_refusal}

abbrev pub step_view : Step → s.Step
step_view step = record { first = step.first; next = step.next; reason = option_map reason_view step.reason }

abbrev pub serial_view : Serial → s.Serial
serial_view (code.Order order) = s.InOrder order.items
serial_view (code.Cycle steps) = s.InCycle (map step_view steps.items)
serial_view code.Undecided = s.Undecided

-- a log that keeps its sessions, whose statements and row versions fit its tables, in the order of a dump
pub record IsSerializable (log : Logged) (versions : List Versions) : Type 0 where
  pub sessions : KeepsSessions (entries log)
  pub statements : StatementsFit log
  pub count : length versions ≡ length (tables log)
  pub spans : SpansFit (tables log) (spans_of versions)
  pub grouped : AreGrouped (tables_changes 0 (tables_of versions))
  pub few : length (entries log) + length (entries log) < 2 ^ 32

-- a transaction runs over the row versions
abbrev pub RunsWhole : Logged → List Versions → ℕ → Type 0
RunsWhole log versions t = run_stop unannotated parameters (log_of (entries log)) t (statement_count t (entries log)) (as_of unannotated (spans_of versions)) ≡ None

-- the transaction behind a place of a cycle
abbrev pub next_in : List ℕ → ℕ → ℕ
next_in cycle place = if nat_lt (suc place) (length cycle) then get_or cycle (suc place) 0 else get_or cycle 0 0

-- the answer by a cycle, if there is one
abbrev pub cycle_answer : List Table → List Entry → List RowChange → List ℕ → s.Serial
cycle_answer tables entries changes [] = s.Undecided
cycle_answer tables entries changes (first ∷ others) = s.InCycle (s.steps_of tables entries changes (first ∷ others))

-- and by an order
abbrev pub IsTried : List Entry → List Table → List Versions → List ℕ → Result Serial SerialStop → Type 0
IsTried entries tables versions order (Ok found) =
    serial_view found ≡ (if is_serial parameters (log_of entries) (length tables) (as_of unannotated (spans_of versions)) order then s.InOrder order else s.Undecided)
IsTried entries tables versions order (Err (Refused refusal)) = ⊥
IsTried entries tables versions order (Err NoMemory) = Unit {0}

abbrev pub IsSerialOf : List Entry → List Versions → (answer : s.Serial) → Result Serial SerialStop → Type 0
IsSerialOf entries versions answer (Ok found) = (runs_refusal parameters entries (spans_of versions) (versions_in entries) ≡ None) × (serial_view found ≡ answer)
IsSerialOf entries versions answer (Err (Refused refusal)) = runs_refusal parameters entries (spans_of versions) (versions_in entries) ≡ Some refusal
IsSerialOf entries versions answer (Err NoMemory) = Unit {0}
