-- Of the contracts that compare what transactions do one after another with what they did.
use Rattle.std.specs.Prelude.{◌≡◌, ℕ, zero, suc, ◌<◌, ◌≤◌, ◌&&◌, ◌||◌, not, Bool, true, false, List, length, Contains, None, Some, Result, Ok, Err}
use Rattle.std.specs.List.{list_all}
use Rattle.std.specs.Option.{option_map, option_map_or}
use Rattle.gp_base.specs.declared.table.Table.{Table}
use Rattle.gp_base.specs.Annotated.{Database, unannotated}
use Rattle.gp_base.specs.Order.{row_cmp, sorted_by}
use Rattle.gp_algebra.specs.Statements.{Statement, insert, insert_select}
use Rattle.gp_log.specs.Contents.{StatementsFit, entries, tables}
use Rattle.gp_log.specs.LogFitting.{SpansFit}
use Rattle.gp_log.specs.Logs.{Logged}
use Rattle.gp_log.specs.Parameters.{parameters}
use Rattle.gp_machine.specs.Entries.{Entry, log_of, statement_at, statement_count, versions_in}
use Rattle.gp_machine.specs.Event.{is_over_answer}
use Rattle.gp_machine.specs.HistorySpans.{as_of}
use Rattle.gp_machine.specs.Points.{run_stop}
use Rattle.gp_machine.specs.Questions.{is_known, stop_refusal}
use Rattle.gp_machine.specs.Runs.{run_before}
use Rattle.gp_machine.specs.SerialRuns as m
use Rattle.gp_reenact.specs.Reenacting.{spans_of}
use Rattle.gp_whatif.specs.declared.error.ReplayStop.{ReplayStop}
use Rattle.gp_whatif.specs.declared.error.ReplayStop.TheVariants as replay
use Rattle.gp_versions.specs.Spans.{Versions}
use Rattle.gp_versions.specs.declared.span.Span.{Span}
use Rattle.gp_serial.specs.declared.error.SerialStop.{SerialStop}
use Rattle.gp_serial.specs.declared.error.SerialStop.TheVariants.{Refused, NoMemory}
use Rattle.gp_serial.specs.Running.{are_equal, rows_at}
use Rattle.gp_serial.specs.Serializing.{runs_refusal}

-- an INSERT may pass a limit, no other statement does
abbrev pub may_stop : Statement → Bool
may_stop (insert table rows) = true
may_stop (insert_select table select) = true
may_stop statement = false

abbrev pub may_stop_at : ℕ → ℕ → List Entry → Bool
may_stop_at t k entries = option_map_or may_stop (statement_at t k entries) false

-- statements of these numbers pass none, whatever they read
abbrev pub NoneStops : ℕ → ℕ → ℕ → List Entry → Type 0
NoneStops t low high entries = (k : ℕ) → low < k → k ≤ high → may_stop_at t k entries ≡ false

-- a transaction runs whole, or where it stops
abbrev pub ChecksRun : List Entry → (ℕ → List Span) → ℕ → Result (Unit {0}) SerialStop → Type 0
ChecksRun entries spans t (Ok done) = run_stop unannotated parameters (log_of entries) t (statement_count t entries) (as_of unannotated spans) ≡ None
ChecksRun entries spans t (Err (Refused refusal)) =
    option_map stop_refusal (run_stop unannotated parameters (log_of entries) t (statement_count t entries) (as_of unannotated spans)) ≡ Some refusal
ChecksRun entries spans t (Err NoMemory) = Unit {0}

-- none of the first versions is refused, this many, or the first that is
abbrev pub ChecksRuns : List Entry → (ℕ → List Span) → ℕ → Result (Unit {0}) SerialStop → Type 0
ChecksRuns entries spans versions (Ok done) = runs_refusal parameters entries spans versions ≡ None
ChecksRuns entries spans versions (Err (Refused refusal)) = runs_refusal parameters entries spans versions ≡ Some refusal
ChecksRuns entries spans versions (Err NoMemory) = Unit {0}

-- both logs have the statements of a transaction, and it stops over neither's row versions
pub record AreComparable (log : Logged) (versions : List Versions) (other : Logged) (made : List Versions) (t : ℕ) : Type 0 where
  pub known : is_known t (entries log) ≡ true
  pub known_other : is_known t (entries other) ≡ true
  pub count : statement_count t (entries other) ≡ statement_count t (entries log)
  pub statements : StatementsFit log
  pub statements_other : StatementsFit other
  pub spans : SpansFit (tables log) (spans_of versions)
  pub spans_other : SpansFit (tables other) (spans_of made)
  pub same : (k : ℕ) → suc k ≤ statement_count t (entries log) → statement_at t (suc k) (entries other) ≡ statement_at t (suc k) (entries log)
  pub unstopped : run_stop unannotated parameters (log_of (entries log)) t (statement_count t (entries log)) (as_of unannotated (spans_of versions)) ≡ None
  pub unstopped_other : run_stop unannotated parameters (log_of (entries other)) t (statement_count t (entries log)) (as_of unannotated (spans_of made)) ≡ None

pub record AreAllComparable (log : Logged) (versions : List Versions) (other : Logged) (made : List Versions) (order : List ℕ) : Type 0 where
  pub each : (t : ℕ) → Contains order t → AreComparable log versions other made t
  pub tables : length versions ≡ length made

-- whether a test passes at the first numbers, this many
abbrev pub passes_first : (ℕ → Bool) → ℕ → Bool
passes_first test zero = true
passes_first test (suc n) = passes_first test n && test n

-- ---- what the statements do

module _ (entries : List Entry) (spans : ℕ → List Span) (others : List Entry) (made : ℕ → List Span) (t : ℕ) where
  abbrev pub before_of : ℕ → Database (Unit {0})
  before_of k = run_before unannotated (log_of entries) t k (as_of unannotated spans)

  abbrev pub before_other : ℕ → Database (Unit {0})
  before_other k = run_before unannotated (log_of others) t k (as_of unannotated made)

  abbrev pub does_same : ℕ → Statement → Bool
  does_same k statement =
      not (is_over_answer unannotated parameters.answer statement (before_of k) || is_over_answer unannotated parameters.answer statement (before_other k))
      && are_equal (sorted_by row_cmp (m.shown t (suc k) statement (before_of k))) (sorted_by row_cmp (m.shown t (suc k) statement (before_other k)))

  -- its statement behind so many others
  abbrev pub next_does_same : ℕ → Bool
  next_does_same k = option_map_or (does_same k) (statement_at t (suc k) entries) true

  abbrev pub first_do_same : ℕ → Bool
  first_do_same = passes_first next_does_same

  abbrev pub ComparesTransaction : Result Bool SerialStop → Type 0
  ComparesTransaction (Ok same) = same ≡ first_do_same (statement_count t entries)
  ComparesTransaction (Err (Refused refusal)) = ⊥
  ComparesTransaction (Err NoMemory) = Unit {0}

-- ---- the last versions

-- a table has the same rows in a version of one and in a version of the other
abbrev pub ends_same : ℕ → ℕ → List Versions → List Versions → ℕ → Bool
ends_same version last versions made table = are_equal (rows_at version (spans_of versions table)) (rows_at last (spans_of made table))

-- ---- all of it

abbrev pub all_do_same : List Entry → List Versions → List Entry → List Versions → List ℕ → Bool
all_do_same entries versions others made = list_all (λ t. first_do_same entries (spans_of versions) others (spans_of made) t (statement_count t entries))

abbrev pub ComparesStatements : List Entry → List Versions → List Entry → List Versions → List ℕ → Result Bool SerialStop → Type 0
ComparesStatements entries versions others made order (Ok same) = same ≡ all_do_same entries versions others made order
ComparesStatements entries versions others made order (Err (Refused refusal)) = ⊥
ComparesStatements entries versions others made order (Err NoMemory) = Unit {0}

abbrev pub ComparesAll : List Entry → List Versions → List Entry → List Versions → List ℕ → Result Bool SerialStop → Type 0
ComparesAll entries versions others made order (Ok same) =
    same ≡ (all_do_same entries versions others made order && passes_first (ends_same (versions_in entries) (versions_in others) versions made) (length versions))
ComparesAll entries versions others made order (Err (Refused refusal)) = ⊥
ComparesAll entries versions others made order (Err NoMemory) = Unit {0}

-- no order, where commits that are made again stop
abbrev pub IsUnmade : ReplayStop → Result Bool SerialStop → Type 0
IsUnmade replay.NoMemory result = result ≡ Err NoMemory
IsUnmade _ result = result ≡ Ok false

abbrev pub IsSerialIf : List Entry → List Table → List Versions → List ℕ → Result Bool SerialStop → Type 0
IsSerialIf entries tables versions order (Ok same) = same ≡ m.is_serial parameters (log_of entries) (length tables) (as_of unannotated (spans_of versions)) order
IsSerialIf entries tables versions order (Err (Refused refusal)) = ⊥
IsSerialIf entries tables versions order (Err NoMemory) = Unit {0}
