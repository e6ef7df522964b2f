-- Machinery: what each method of the engine does to what it keeps.
use Rattle.std.specs.Prelude.{◌≡◌, ◌≢◌, ◌⊎◌, ℕ, suc, ◌<◌, ◌≤◌, ◌-◌, Bool, true, false, ◌^◌, List, [], ◌∷◌, ◌++◌, length, slice_index_or, slice_set, nat_le, Option, Some, None, Result, Ok, Err}
use Rattle.gp_base.specs.declared.limit.Limit.TheVariants as limit
use Rattle.gp_base.specs.declared.refusal.Refusal.{Refusal}
use Rattle.gp_base.specs.declared.refusal.Refusal.TheVariants.{E11, E14}
use Rattle.gp_base.specs.declared.table.Table.{Table}
use Rattle.gp_base.specs.Annotated.{Database, unannotated}
use Rattle.gp_base.specs.Identities.{Identity}
use Rattle.gp_base.specs.IdentityParts.{identity_transaction}
use Rattle.gp_algebra.specs.Effects.{step, wrote}
use Rattle.gp_algebra.specs.Statements as s
use Rattle.gp_algebra.specs.Statements.{Statement}
use Rattle.gp_algebra.specs.Views.{statement_view}
use Rattle.gp_versions.specs.Spans.{Versions}
use Rattle.gp_txn.specs.declared.error.CommitStop.{CommitStop}
use Rattle.gp_txn.specs.declared.error.CommitStop.TheVariants as stop
use Rattle.gp_txn.specs.declared.conflict.Conflict.{Conflict}
use Rattle.gp_base.specs.declared.limit.TheConstants.{MAX_SPANS}
use Rattle.gp_txn.specs.Committing as txn
use Rattle.gp_txn.specs.Bases.{base_after}
use Rattle.gp_txn.specs.Committing.{spans_left}
use Rattle.gp_txn.specs.Conflicts.{IsFirstConflict, lates_at}
use Rattle.gp_txn.specs.Transactions.{Writes, HoldsOwn, HoldsThere, IsUnwritten, base_at, has_written, snapshot_of, view_at, writes_at}
use Rattle.gp_machine.specs.declared.reply.Reply.{Reply}
use Rattle.gp_machine.specs.declared.reply.Reply.TheVariants as reply
use Rattle.gp_machine.specs.Actions as allow
use Rattle.gp_machine.specs.Actions.{Allowed}
use Rattle.gp_machine.specs.ActionForms.{Action, allowed_to}
use Rattle.gp_machine.specs.Entries.{Entry, RolledBack, Lost, Created, Began, Ran, Committed, Ended, committer_of, statements_in, versions_in}
use Rattle.gp_machine.specs.Event.{count_refusal, creation_refusal, name_at, refusal_of, reply_of, target_of}
use Rattle.gp_grammar.specs.Syntax.{Command}
use Rattle.gp_check.specs.Checking.{checked}
use Rattle.gp_log.specs.declared.limit.TheConstants.{MAX_TRANSACTIONS}
use Rattle.gp_log.specs.Parameters.{parameters}
use Rattle.gp_log.specs.LogCounts.{open_in}
use Rattle.gp_log.specs.LogFacts.{tables_in}
use Rattle.gp_log.specs.Logs.{Logged, log_view}
use Rattle.gp_engine.specs.declared.running.Unlogged.{Unlogged}
use Rattle.gp_engine.specs.declared.running.Running.{Running}
use Rattle.gp_base.specs.declared.stop.Stop.{Stop}
use Rattle.gp_base.specs.declared.stop.Stop.TheVariants as run
use Rattle.gp_engine.specs.Engine.{Engine, IsUnchanged, entries_of, newest_of, tables_of, transactions_of}

-- ---- a statement of a running transaction

-- a query only reads
abbrev pub is_read : Statement → Bool
is_read (s.read select) = true
is_read _ = false

module _ (tables : List Table) (versions : List Versions) (newest : ℕ) (old : Running) where
  -- the version that it reads, where this is the newest one
  abbrev pub now : ℕ
  now = snapshot_of old.active newest

  -- what the transaction reads there
  abbrev pub start : Database (Unit {0})
  start = view_at old.active.tables versions now

  -- what refuses a statement that was checked
  abbrev pub refusal_in : Statement → Option Refusal
  refusal_in statement = refusal_of unannotated parameters tables old.active.t (suc old.statements) statement start

  -- a statement that passes no limit
  pub record Accepts (new : Running) (answer : Reply) (statement : Statement) : Type 0 where
    pub unrefused : refusal_in statement ≡ None
    pub t : new.active.t ≡ old.active.t
    pub read_committed : new.active.read_committed ≡ old.active.read_committed
    pub begin : new.active.begin ≡ old.active.begin
    pub last : new.active.last ≤ suc old.statements
    pub there : (is_read statement ≡ true) ⊎ (target_of statement < length versions)
    pub statements : new.statements ≡ suc old.statements
    pub view : (table : ℕ) → view_at new.active.tables versions now table ≡ step unannotated old.active.t (suc old.statements) statement start table
    pub base : (table : ℕ) (id : Identity) → identity_transaction id ≢ old.active.t
        → base_at new.active.tables versions table id
        ≡ base_after now (has_written (wrote unannotated old.active.t (suc old.statements) statement start) table id) (base_at old.active.tables versions table id)
    pub below : (table : ℕ)
        → ((writes_at table new.active.tables).version ≡ (writes_at table old.active.tables).version) ⊎ ((writes_at table new.active.tables).version ≡ now)
    pub holds : HoldsThere old.active.tables versions → HoldsThere new.active.tables versions
    pub says : answer ≡ reply_of unannotated old.active.t (suc old.statements) statement start

-- a statement does not run as this refuses it, or memory ran out, which may come in any
abbrev pub StopsBy : Stop → Option Refusal → Type 0
StopsBy (run.Refused refusal) found = found ≡ Some refusal
StopsBy run.NoMemory found = Unit {0}

-- this is the answer to its line; there is none where memory ran out
abbrev pub Answers : Stop → Reply → Type 0
Answers (run.Refused refusal) answer = answer ≡ reply.Refused refusal
Answers run.NoMemory answer = ⊥

-- ---- the engine

-- what a statement is: refused by the first count that it passes, or else what the check says
abbrev pub meaning_of : Option Refusal → Result Statement Refusal → Result Statement Refusal
meaning_of (Some refusal) checked = Err refusal
meaning_of None checked = checked

-- what refuses a statement that means this
abbrev pub refused_as : List Table → List Versions → ℕ → Running → Result Statement Refusal → Option Refusal
refused_as tables versions newest old (Err refusal) = Some refusal
refused_as tables versions newest old (Ok statement) = refusal_in tables versions newest old statement

module _ (entries : List Entry) (versions : List Versions) (old : Running) (command : Command) where
  -- what a statement of a transaction is
  abbrev pub meaning_in : Result Statement Refusal
  meaning_in = meaning_of (count_refusal parameters old.statements (statements_in entries)) (checked (tables_in entries) command)

  abbrev pub refused_by : Option Refusal
  refused_by = refused_as (tables_in entries) versions (versions_in entries) old meaning_in

  -- it has run, and is not in the log yet
  pub record RunsTo (new : Running) (ran : Unlogged) : Type 0 where
    pub t : ran.t ≡ old.active.t
    pub k : ran.k ≡ suc old.statements
    pub means : meaning_in ≡ Ok (statement_view ran.stmt.value)
    pub accepts : Accepts (tables_in entries) versions (versions_in entries) old new ran.reply (statement_view ran.stmt.value)

-- the log has these entries, and beside it are these row versions and these sessions
pub record Keeps (engine : Engine) (entries : List Entry) (held : List Versions) (running : List (Option Running)) : Type 0 where
  pub log_is : entries_of engine ≡ entries
  pub versions_are : engine.versions ≡ held
  pub sessions_are : engine.sessions ≡ running

-- the transaction of the session at a place, if it has one
abbrev pub running_at : Engine → ℕ → Option Running
running_at engine place = slice_index_or engine.sessions place None

-- a transaction that runs can end: the log keeps memory for that
pub record HasPlace (log : Logged) : Type 0 where
  pub few : length log.entries < 2 ^ 32 - 1
  pub unended : 0 < open_in (log_view log.entries)

-- a conflict is in one of so many tables
abbrev pub IsConflictIn : ℕ → CommitStop → Type 0
IsConflictIn count (stop.Conflict version table id) = table < count
IsConflictIn count stop.Full = Unit {0}
IsConflictIn count stop.NoMemory = Unit {0}

-- what refuses a statement of it that was checked
abbrev pub refusal_at : Engine → Running → Statement → Option Refusal
refusal_at engine running statement = refusal_in (tables_of engine) engine.versions (newest_of engine) running statement

-- one more entry
abbrev pub Appends : Engine → Engine → Entry → Type 0
Appends old new entry = Keeps new (entry ∷ entries_of old) old.versions old.sessions

-- the transaction of the session at a place ends
abbrev pub Clears : Engine → Engine → ℕ → Entry → Type 0
Clears old new place entry = Keeps new (entry ∷ entries_of old) old.versions (slice_set old.sessions place None)

module _ (old new : Engine) (answer : Reply) where
  -- nothing changes
  abbrev pub Refuses : Refusal → Type 0
  Refuses refusal = IsUnchanged old new × (answer ≡ reply.Refused refusal)

  -- one more table, without row versions
  pub record Adds (line session : ℕ) (table : Table) : Type 0 where
    pub added : Versions
    pub empty : added.spans ≡ []
    pub keeps : Keeps new (Created line session table ∷ entries_of old) (old.versions ++ added ∷ []) old.sessions
    pub says : answer ≡ reply.Created (length (tables_of old))

  -- CREATE TABLE, by its refusal
  abbrev pub Creates : ℕ → ℕ → Table → Option Refusal → Type 0
  Creates line session table (Some refusal) = Refuses refusal
  Creates line session table None = Adds line session table

  -- BEGIN, by whether there are too many transactions
  pub record Starts (line place : ℕ) (read_committed : Bool) : Type 0 where
    pub active : Writes
    pub t : active.t ≡ suc (transactions_of old)
    pub kind : active.read_committed ≡ read_committed
    pub begin : active.begin ≡ newest_of old
    pub last : active.last ≡ 0
    pub tables : (table : ℕ) → IsUnwritten (newest_of old) (writes_at table active.tables)
    pub keeps : Keeps new (Began line (suc place) (suc (transactions_of old)) read_committed ∷ entries_of old) old.versions
        (slice_set old.sessions place (Some (record { active = active; statements = 0 })))
    pub says : answer ≡ reply.Began (suc (transactions_of old)) (newest_of old)

  abbrev pub Begins : ℕ → ℕ → Bool → Bool → Type 0
  Begins line place read_committed true = Refuses (E14 limit.Transactions)
  Begins line place read_committed false = Starts line place read_committed

  -- a commit that was stopped
  abbrev pub Stops : ℕ → ℕ → ℕ → CommitStop → Type 0
  Stops line place t (stop.Conflict version table id) =
      Clears old new place (Ended line (suc place) Lost t)
      × (answer ≡ reply.Refused (E11 t (committer_of version (entries_of old)) (name_at table (tables_of old)) id))
  Stops line place t stop.Full = Refuses (E14 limit.Versions)
  Stops line place t stop.NoMemory = ⊥

  -- a statement that passes no limit, and is in the log
  pub record Records (line place : ℕ) (running : Running) (command : Command) (statement : Statement) : Type 0 where
    pub after : Running
    pub accepts : Accepts (tables_of old) old.versions (newest_of old) running after answer statement
    pub keeps : Keeps new (Ran line (suc place) command running.active.t statement ∷ entries_of old) old.versions (slice_set old.sessions place (Some after))

  module _ (line place : ℕ) (running : Running) (command : Command) where
    -- a statement that was checked, by its refusal
    abbrev pub RunsChecked : Statement → Option Refusal → Type 0
    RunsChecked statement (Some refusal) = Refuses refusal
    RunsChecked statement None = Records line place running command statement

    abbrev pub RunsAs : Result Statement Refusal → Type 0
    RunsAs (Err refusal) = Refuses refusal
    RunsAs (Ok statement) = RunsChecked statement (refusal_at old running statement)

    -- a statement, by the counts and by the check
    abbrev pub Runs : Type 0
    Runs = RunsAs (meaning_in (entries_of old) old.versions running command)

  -- COMMIT: it is lost by a conflict, or refused as the row versions would be too many, or makes the next version
  pub data Commits (line place : ℕ) (running : Running) : Type 0 where
    loses : (conflict : Conflict) (kept : Engine) → HoldsOwn running.active → IsFirstConflict (length old.versions) (lates_at running.active.tables old.versions) (Some conflict)
        → IsUnchanged old kept → Clears kept new place (Ended line (suc place) Lost running.active.t)
        → answer ≡ reply.Refused (E11 running.active.t (committer_of conflict.late.version (entries_of old)) (name_at conflict.place (tables_of old)) conflict.late.id)
        → Commits line place running
    overflows : HoldsOwn running.active → IsFirstConflict (length old.versions) (lates_at running.active.tables old.versions) None
        → MAX_SPANS < spans_left running.active.tables old.versions → IsUnchanged old new → answer ≡ reply.Refused (E14 limit.Versions) → Commits line place running
    publishes : HoldsOwn running.active → length new.versions ≡ length old.versions
        → txn.Commits (suc (newest_of old)) running.active old.versions new.versions
        → Keeps new (Committed line (suc place) running.active.t ∷ entries_of old) new.versions (slice_set old.sessions place None)
        → answer ≡ reply.Committed running.active.t (suc (newest_of old))
        → Commits line place running

  -- what a session may do, or why it may not
  abbrev pub Does : ℕ → ℕ → Result (Allowed Running) Refusal → Type 0
  Does line place (Err refusal) = Refuses refusal
  Does line place (Ok (allow.Creates table)) = Creates line (suc place) table (creation_refusal parameters (tables_of old) table)
  Does line place (Ok (allow.Begins read_committed)) = Begins line place read_committed (nat_le MAX_TRANSACTIONS (transactions_of old))
  Does line place (Ok (allow.Commits running)) = Commits line place running
  Does line place (Ok (allow.RollsBack running)) =
      Clears old new place (Ended line (suc place) RolledBack running.active.t) × (answer ≡ reply.RolledBack running.active.t)
  Does line place (Ok (allow.Runs running command)) = Runs line place running command

  -- an action in a session with this transaction, or without one
  abbrev pub DoesAt : ℕ → ℕ → Option Running → Action → Type 0
  DoesAt line place running action = Does line place (allowed_to running action)
