-- Part of the statement: the commits of a log made again, whatever a history held. Each transaction that made a version runs its statements again, each
-- on the version that it reads, over the versions made so far, and its commit makes the next one, unless it stops.
use Rattle.std.specs.Prelude.{ℕ, zero, suc, ◌+◌, nat_lt, Bool, List, [], Option, Some, None, if◌then◌else◌}
use Rattle.std.specs.Option.{option_map, option_or}
use Rattle.gp_base.specs.Annotated.{Annotations, Environment}
use Rattle.gp_algebra.specs.Effects.{Written}
use Rattle.gp_machine.specs.Bases.{Based, pairs, with_bases}
use Rattle.gp_machine.specs.Committed.{next_version}
use Rattle.gp_machine.specs.Conflicts.{Conflict, least_conflict}
use Rattle.gp_machine.specs.Entries.{Log}
use Rattle.gp_machine.specs.Event.{published_rows}
use Rattle.gp_machine.specs.Parameters.{Parameters}
use Rattle.gp_machine.specs.Points.{RunStop, run_stop}
use Rattle.gp_machine.specs.Reading.{Seen, wrote_by}
use Rattle.gp_machine.specs.Runs.{run, run_before}
use Rattle.gp_machine.specs.State.{empty_database, with_value}

-- the versions made so far, the rows that each of their commits wrote, and how many rows they published
pub record Replay (M : Type 0) : Type 0 where
  pub committed : Environment M
  pub written : ℕ → List Written
  pub rows : ℕ

-- Why a commit is not made again: its run passes a limit; it is lost, by the version that it would have made and its conflict; or too many rows are
-- published.
pub data ReplayStop : Type 0 where
  Passes : RunStop → ReplayStop
  Loses : ℕ → Conflict → ReplayStop
  Fills : ReplayStop

-- by the stop of the run, then by the conflict, then by whether the rows are too many
abbrev pub first_stop : ℕ → Option RunStop → Option Conflict → Bool → Option ReplayStop
first_stop version stop conflict full =
    option_or (option_map Passes stop) (option_or (option_map (Loses version) conflict) (if full then Some Fills else None))

-- the versions after a commit, given the number of tables and of the versions before, and what its transaction reads and wrote
abbrev pub remade : {M : Type 0} → ℕ → ℕ → Seen M → Replay M → Replay M
remade tables versions seen before = record {
  committed = with_value (suc versions) (next_version (before.committed versions) seen.view (pairs seen.written)) before.committed;
  written = with_value (suc versions) (pairs seen.written) before.written;
  rows = before.rows + published_rows seen tables;
}

module _ {M : Type 0} (domain : Annotations M) (log : Log) where
  -- the rows that a transaction wrote in the run of its first statements, this many, each with its base
  abbrev pub run_written : ℕ → ℕ → Environment M → List Based
  run_written t zero versions = []
  run_written t (suc k) versions =
      with_bases (log.version t (suc k)) (run_written t k versions) (wrote_by domain t (suc k) (log.statement t (suc k)) (run_before domain log t k versions))

  -- what a transaction reads and has written at its end, run again over these versions
  abbrev pub rerun : ℕ → Environment M → Seen M
  rerun t versions = record { view = run domain log t (log.statement_count t) versions; written = run_written t (log.statement_count t) versions }

  -- the first versions made again, this many, given the number of tables
  abbrev pub replayed : ℕ → ℕ → Replay M
  replayed tables zero = record { committed = λ version. empty_database; written = λ version. []; rows = 0 }
  replayed tables (suc u) = let before = replayed tables u in remade tables u (rerun (log.committer (suc u)) before.committed) before

  module _ (parameters : Parameters) (tables : ℕ) where
    -- the stop of the commit of a transaction over the versions before, this many
    abbrev pub commit_stop : ℕ → ℕ → Replay M → Option ReplayStop
    commit_stop versions t before =
        let seen = rerun t before.committed in
        first_stop (suc versions) (run_stop domain parameters log t (log.statement_count t) before.committed) (least_conflict before.written versions seen.written)
        (nat_lt parameters.published (before.rows + published_rows seen tables))

    abbrev pub version_stop : ℕ → Option ReplayStop
    version_stop u = commit_stop u (log.committer (suc u)) (replayed tables u)

    -- the first stop of the first versions, this many
    abbrev pub replay_stop : ℕ → Option ReplayStop
    replay_stop zero = None
    replay_stop (suc u) = option_or (replay_stop u) (version_stop u)
