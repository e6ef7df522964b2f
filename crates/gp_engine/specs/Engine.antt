-- Machinery of the engine's contract: what the engine keeps, and when it represents a state of the history machine.
use Rattle.std.specs.Prelude.{◌≡◌, ℕ, zero, suc, ◌+◌, ◌<◌, ◌≤◌, true, List, [], ◌∷◌, length, slice_index_or, Option, Some, None}
use Rattle.std.specs.List.{AllByRecursion}
use Rattle.std.specs.Option.{option_map}
use Rattle.gp_base.specs.declared.catalog.TheConstants.{MAX_TABLES}
use Rattle.gp_base.specs.declared.table.Table.{Table}
use Rattle.gp_base.specs.Annotated.{unannotated}
use Rattle.gp_base.specs.IdentityParts.{identity_transaction}
use Rattle.gp_grammar.specs.declared.limits.TheConstants.{MAX_SESSION}
use Rattle.gp_grammar.specs.Syntax.{Command}
use Rattle.gp_check.specs.Valid.{tables_are_valid}
use Rattle.gp_versions.specs.declared.span.Span.{Span}
use Rattle.gp_versions.specs.Spans.{Versions}
use Rattle.gp_versions.specs.Commits.{AreBelow}
use Rattle.gp_txn.specs.Bases.{base_of}
use Rattle.gp_txn.specs.Overlay as txn
use Rattle.gp_txn.specs.Overlay.{view_rows}
use Rattle.gp_txn.specs.Transactions.{HoldsOthers, HoldsThere, snapshot_of, table_at, view_at, writes_at}
use Rattle.gp_txn.specs.Counts.{count_spans}
use Rattle.gp_machine.specs.declared.reply.Reply.{Reply}
use Rattle.gp_machine.specs.Entries.{Entry, statement_count, statements_in, transactions_in, versions_in}
use Rattle.gp_machine.specs.Event.{Line, after, event}
use Rattle.gp_machine.specs.Represents.{Kept, Overlay, Represents}
use Rattle.gp_machine.specs.State.{State, start}
use Rattle.gp_log.specs.declared.limit.TheConstants.{MAX_TRANSACTIONS, MAX_STATEMENTS}
use Rattle.gp_log.specs.LogFacts.{tables_in}
use Rattle.gp_log.specs.LogCounts.{ends_in}
use Rattle.gp_log.specs.Logs.{Logged, log_view}
use Rattle.gp_engine.specs.declared.running.Running.{Running}
use Rattle.gp_log.specs.Parameters.{parameters}

-- what the engine keeps
pub record Engine : Type 0 where
  -- the accepted lines
  pub log : Logged
  -- the row versions of each table, in order of creation
  pub versions : List Versions
  -- the transaction of each session, if it has one, from session 1
  pub sessions : List (Option Running)

-- ---- what the log says

-- the entries of the history machine
abbrev pub entries_of : Engine → List Entry
entries_of engine = log_view engine.log.entries

-- the tables, in order of creation
abbrev pub tables_of : Engine → List Table
tables_of engine = tables_in (entries_of engine)

-- how many transactions began, and how many statements were accepted
abbrev pub transactions_of : Engine → ℕ
transactions_of engine = transactions_in (entries_of engine)

abbrev pub statements_of : Engine → ℕ
statements_of engine = statements_in (entries_of engine)

-- the newest version
abbrev pub newest_of : Engine → ℕ
newest_of engine = versions_in (entries_of engine)

-- ---- the sessions

-- the transaction of a session; sessions are numbered from 1
abbrev pub session_at : ℕ → List (Option Running) → Option Running
session_at zero sessions = None
session_at (suc place) sessions = slice_index_or sessions place None

-- how many sessions have a transaction
abbrev pub count_running : List (Option Running) → ℕ
count_running [] = zero
count_running (None ∷ sessions) = count_running sessions
count_running (Some running ∷ sessions) = suc (count_running sessions)

-- the spans of each table
abbrev pub spans_of : List Versions → ℕ → List Span
spans_of versions place = (table_at place versions).spans

-- the writes of a transaction, over these spans
abbrev pub overlay_of : (ℕ → List Span) → Running → Overlay
overlay_of spans running = record {
  transaction = running.active.t;
  read_committed = running.active.read_committed;
  begin = running.active.begin;
  version = λ place. (writes_at place running.active.tables).version;
  statements = running.statements;
  shown = λ rows place. view_rows (txn.overlay_of (spans place) (writes_at place running.active.tables)) (rows place);
  base = λ rows place id. base_of (txn.overlay_of (spans place) (writes_at place running.active.tables)) (rows place) id;
}

-- what these entries, row versions and sessions are to the history machine
abbrev pub kept_by : List Entry → List Versions → List (Option Running) → Kept
kept_by entries versions sessions = record {
  catalogue = tables_in entries;
  entries = entries;
  spans = spans_of versions;
  sessions = λ session. option_map (overlay_of (spans_of versions)) (session_at session sessions);
  versions = versions_in entries;
  transactions = transactions_in entries;
  statements = statements_in entries;
  rows = count_spans versions (length (tables_in entries));
}

abbrev pub kept_of : Engine → Kept
kept_of engine = kept_by (entries_of engine) engine.versions engine.sessions

-- the engine represents a state that some lines leave
pub record IsEngineOf (engine : Engine) (state : State (Unit {0})) : Type 0 where
  pub lines : List Line
  pub reached : state ≡ after unannotated parameters start lines
  pub kept : Represents (kept_of engine) state

-- For every state that the engine represents, the answer to a line of this number is the reply of the event, and the engine represents the state
-- that the event leaves.
pub record Follows (old new : Engine) (line session : ℕ) (command : Command) (answer : Reply) : Type 0 where
  pub reply : (state : State (Unit {0})) → IsEngineOf old state → answer ≡ (event unannotated parameters state line session command).1
  pub state : (state : State (Unit {0})) → IsEngineOf old state → IsEngineOf new (event unannotated parameters state line session command).0

-- nothing has changed but how much memory the log and the row versions have room for
pub record IsUnchanged (old new : Engine) : Type 0 where
  pub entries : new.log.entries ≡ old.log.entries
  pub sessions : new.sessions ≡ old.sessions
  pub spans : (place : ℕ) → spans_of new.versions place ≡ spans_of old.versions place
  pub tables : length new.versions ≡ length old.versions

-- ---- what holds between two lines

-- the transaction began, no row version is its own, its last write was one of its statements, and all of these are in the log
pub record IsSession (entries : List Entry) (versions : List Versions) (running : Running) : Type 0 where
  pub first : 1 ≤ running.active.t
  pub began : running.active.t ≤ transactions_in entries
  pub begin : running.active.begin ≤ versions_in entries
  pub last : running.active.last ≤ running.statements
  pub count : running.statements ≡ statement_count running.active.t entries
  pub others : HoldsOthers running.active.t versions
  -- its writes lie over versions that its next statement does not go behind
  pub below : (place : ℕ) → (writes_at place running.active.tables).version ≤ snapshot_of running.active (versions_in entries)
  -- the rows that it wrote over earlier versions are rows of the tables
  pub there : HoldsThere running.active.tables versions
  -- it reads no rows of tables that are not there
  pub beyond : (place : ℕ) → length versions ≤ place → view_at running.active.tables versions running.active.begin place ≡ []

-- of the entries, the row versions of the tables, and the transactions of the sessions
pub record IsSound (entries : List Entry) (versions : List Versions) (sessions : List (Option Running)) : Type 0 where
  pub valid : tables_are_valid (tables_in entries) ≡ true
  pub tables : length versions ≡ length (tables_in entries)
  pub few : length (tables_in entries) ≤ MAX_TABLES
  pub places : length sessions ≡ MAX_SESSION
  pub transactions : transactions_in entries ≤ MAX_TRANSACTIONS
  pub statements : statements_in entries ≤ MAX_STATEMENTS
  -- transactions that have not begun have no statements
  pub numbers : (t : ℕ) → transactions_in entries < t → statement_count t entries ≡ 0
  -- the sessions run the transactions that have not ended
  pub unended : count_running sessions + ends_in entries ≡ transactions_in entries
  pub below : (place : ℕ) → AreBelow (suc (versions_in entries)) (spans_of versions place)
  pub makers : (place : ℕ) → AllByRecursion (λ (span : Span). identity_transaction span.id ≤ transactions_in entries) (spans_of versions place)
  pub each : (session : ℕ) (running : Running) → session_at session sessions ≡ Some running → IsSession entries versions running
  pub apart : (session other : ℕ) (a b : Running) → session_at session sessions ≡ Some a → session_at other sessions ≡ Some b
      → a.active.t ≡ b.active.t → session ≡ other

abbrev pub IsEngine : Engine → Type 0
IsEngine engine = IsSound (entries_of engine) engine.versions engine.sessions
