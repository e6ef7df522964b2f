-- Of the laws `histories_are_made_again` and `histories_do_not_stop`: the row versions of what was made, and logs whose commits come in order.
use Rattle.std.specs.Prelude.{◌≡◌, ℕ, suc, ◌<◌, ◌≤◌, List}
use Rattle.gp_base.specs.Annotated.{Annotations}
use Rattle.gp_versions.specs.declared.span.Span.{Span}
use Rattle.gp_machine.specs.Entries.{Log}
use Rattle.gp_machine.specs.HistorySpans.{spans_of}
use Rattle.gp_machine.specs.Replaying.{replayed}

-- the row versions of the first versions made again, this many, in a table, given the number of tables
abbrev pub replayed_spans : {M : Type 0} → Annotations M → Log → ℕ → ℕ → ℕ → List Span
replayed_spans domain log tables versions place =
    spans_of versions (replayed domain log tables versions).committed (replayed domain log tables versions).written place

-- a log with its first versions alone, this many
abbrev pub upto_version : ℕ → Log → Log
upto_version versions log = record log { versions = versions }

-- In a log that keeps its sessions, a transaction reads versions before the one that it makes, no statement an older one than the statement before it,
-- and commits once.
pub record CommitsInOrder (log : Log) : Type 0 where
  pub order : (u k : ℕ) → u < log.versions → k ≤ log.statement_count (log.committer (suc u)) → log.version (log.committer (suc u)) k ≤ u
  pub later : (u k : ℕ) → u < log.versions → k < log.statement_count (log.committer (suc u))
      → log.version (log.committer (suc u)) k ≤ log.version (log.committer (suc u)) (suc k)
  pub once : (u v : ℕ) → u < log.versions → v < log.versions → log.committer (suc u) ≡ log.committer (suc v) → u ≡ v
