-- Machinery: what contracts say of a log, in the values that the code has.
use Rattle.std.specs.Prelude.{ℕ, ◌+◌, ◌^◌, ◌<◌, ◌≤◌, suc, List, length, Result}
use Rattle.gp_base.specs.declared.catalog.TheConstants.{MAX_TABLES}
use Rattle.gp_base.specs.declared.refusal.Refusal.{Refusal}
use Rattle.gp_grammar.specs.Syntax.{LogChange}
use Rattle.gp_versions.specs.Spans.{Versions}
use Rattle.gp_txn.specs.Transactions.{Writes}
use Rattle.gp_machine.specs.Entries.{Entry, committer_of, statement_count}
use Rattle.gp_log.specs.Contents.{commits, entries}
use Rattle.gp_log.specs.Logs.{Logged}
use Rattle.gp_log.specs.Parameters.{parameters}
use Rattle.gp_whatif.specs.Changed as c
use Rattle.gp_whatif.specs.ChangedForms as f
use Rattle.gp_whatif.specs.Remade as m
use Rattle.gp_whatif.specs.Replays as r
use Rattle.gp_whatif.specs.declared.error.ReplayStop.{ReplayStop}

-- ---- changes

-- its lines are those of a script
abbrev pub AreLines : Logged → Type 0
AreLines log = f.AreLines (entries log)

-- with one change, each line as it was
abbrev pub changed : Logged → LogChange → Result (List Entry) Refusal
changed log change = c.changed parameters (entries log) change

abbrev pub changed_log : Logged → List LogChange → Result (List Entry) Refusal
changed_log log changes = c.changed_log parameters (entries log) changes

-- ---- a replay

abbrev pub IsReplayable : Logged → Type 0
IsReplayable log = r.IsReplayable (entries log)

-- the row versions of its first versions, this many
abbrev pub IsMade : Logged → ℕ → List Versions → Type 0
IsMade log u versions = r.IsMade (entries log) u versions

-- what stops the commits up to this version
abbrev pub IsStopOf : Logged → ℕ → ReplayStop → Type 0
IsStopOf log u stop = r.Stops stop (r.stop_upto (entries log) u)

-- the transaction that makes the version after this one, and how many statements it has
abbrev pub maker : Logged → ℕ → ℕ
maker log u = committer_of (suc u) (entries log)

abbrev pub maker_statements : Logged → ℕ → ℕ
maker_statements log u = statement_count (maker log u) (entries log)

-- it has run so many of them
abbrev pub HasRun : Logged → ℕ → List Versions → ℕ → Writes → Type 0
HasRun log u versions k writes = m.HasRun (entries log) u versions k writes

-- the log can be replayed, its first versions are made, this many, and there is one more
pub record HasNext (log : Logged) (u : ℕ) (versions : List Versions) : Type 0 where
  pub replayable : IsReplayable log
  pub within : u < commits log
  pub made : IsMade log u versions
  -- tables and versions are numbered by the code
  pub few : length versions ≤ MAX_TABLES
  pub few_versions : u + 1 < 2 ^ 32
