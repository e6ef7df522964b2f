-- Part of the statement: what a transaction reads and has written after its first statements, and before the next one, by the log: by the rule of the history
-- machine (`Reading`), statement by statement, over the versions that the log says.
use Rattle.std.specs.Prelude.{ℕ, zero, suc, []}
use Rattle.gp_base.specs.Annotated.{Annotations, Database, Environment}
use Rattle.gp_machine.specs.Entries.{Log}
use Rattle.gp_machine.specs.Reading.{Seen, next_seen, started}

module _ {M : Type 0} (domain : Annotations M) where
  -- after the first statements, this many
  abbrev pub seen_by : Log → ℕ → ℕ → Environment M → Seen M
  seen_by log t zero versions = record { view = versions (log.version t zero); written = [] }
  seen_by log t (suc k) versions =
      next_seen domain t (suc k) (log.version t k) (log.version t (suc k)) (versions (log.version t (suc k))) (log.statement t (suc k)) (seen_by log t k versions)

  -- before statement k + 1
  abbrev pub start_by : Log → ℕ → ℕ → Environment M → Database M
  start_by log t k versions = started (log.version t k) (log.version t (suc k)) (versions (log.version t (suc k))) (seen_by log t k versions)
