-- Of the contract of `replay` and of the law `changes_keep_earlier_versions`: what a replay of a log answers.
use Rattle.std.specs.Prelude.{◌≡◌, ℕ, true, List, [], ◌∷◌, length, Option, Some, None}
use Rattle.gp_base.specs.Annotated.{unannotated}
use Rattle.gp_versions.specs.Spans.{Versions}
use Rattle.gp_txn.specs.Transactions.{table_at}
use Rattle.gp_machine.specs.Entries.{Entry, Ran, log_of}
use Rattle.gp_machine.specs.CheckedTargets.{HasTarget}
use Rattle.gp_machine.specs.Points.{OverRows, OverNodes}
use Rattle.gp_machine.specs.Replaying as m
use Rattle.gp_machine.specs.Replaying.{replay_stop}
use Rattle.gp_machine.specs.ReplayForms.{replayed_spans}
use Rattle.gp_log.specs.Parameters.{parameters}
use Rattle.gp_log.specs.LogFacts.{tables_in}
use Rattle.gp_log.specs.LogFitting.{statements_fit}
use Rattle.gp_log.specs.Sessions.{KeepsSessions}
use Rattle.gp_whatif.specs.declared.error.ReplayStop.{ReplayStop}
use Rattle.gp_whatif.specs.declared.error.ReplayStop.TheVariants.{Lost, Rows, Ancestry, Full, NoMemory}

-- A log that can be replayed: it keeps its sessions, and its statements have been checked.
pub record IsReplayable (entries : List Entry) : Type 0 where
  pub sessions : KeepsSessions entries
  pub fits : statements_fit (tables_in entries) entries ≡ true

-- each statement that writes, writes one of the first tables, this many
abbrev pub WritesTables : ℕ → List Entry → Type 0
WritesTables tables [] = Unit {0}
WritesTables tables (Ran line session command t statement ∷ older) = HasTarget tables statement × WritesTables tables older
WritesTables tables (_ ∷ older) = WritesTables tables older

-- A log whose commits, made again, are a history, whatever its check passed: it keeps its sessions, and its statements write its tables.
pub record IsCoherent (entries : List Entry) : Type 0 where
  pub sessions : KeepsSessions entries
  pub tables : WritesTables (length (tables_in entries)) entries

-- the first stop of the commits of a log, up to this version
abbrev pub stop_upto : List Entry → ℕ → Option m.ReplayStop
stop_upto entries u = replay_stop unannotated (log_of entries) parameters (length (tables_in entries)) u

-- what stops; running out of memory may stop any replay
abbrev pub Stops : ReplayStop → Option m.ReplayStop → Type 0
Stops (Lost version other table id) expected = expected ≡ Some (m.Loses version (record { pair = record { table = table; identity = id }; version = other }))
Stops (Rows t k) expected = expected ≡ Some (m.Passes (OverRows t k))
Stops (Ancestry t k) expected = expected ≡ Some (m.Passes (OverNodes t k))
Stops Full expected = expected ≡ Some m.Fills
Stops NoMemory expected = Unit {0}

-- the row versions of the first versions of the log, this many, none of which stops
pub record IsMade (entries : List Entry) (u : ℕ) (versions : List Versions) : Type 0 where
  -- one for each table
  pub count : length versions ≡ length (tables_in entries)
  pub unstopped : stop_upto entries u ≡ None
  pub spans : (place : ℕ) → (table_at place versions).spans ≡ replayed_spans unannotated (log_of entries) (length (tables_in entries)) u place
