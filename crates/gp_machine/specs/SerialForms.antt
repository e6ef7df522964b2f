-- Part of the statement: a history in which the transactions that committed in another one run one after another, and each does what it did there.
use Rattle.std.specs.List.Sorted.{IsPermutation}
use Rattle.std.specs.Prelude.{◌≡◌, ℕ, suc, ◌<◌, Contains, List, length, map, Some}
use Rattle.gp_base.specs.Annotated.{unannotated}
use Rattle.gp_algebra.specs.Answers.{answer, cells_of}
use Rattle.gp_algebra.specs.Statements.{Select, Statement, read}
use Rattle.gp_machine.specs.Entries.{Entry, committer_of, log_of, statement_at, statement_count, versions_in}
use Rattle.gp_machine.specs.Histories.{IsHistory}
use Rattle.gp_machine.specs.Precedence.{numbers}
use Rattle.gp_machine.specs.ReadBy.{start_by}
use Rattle.gp_machine.specs.Replaying.{Replay}
use Rattle.gp_machine.specs.SerialRuns.{row_cells, serial_log, serial_replay, shown}
use Rattle.gp_machine.specs.State.{State}

-- the transactions that committed, in the order of their versions
abbrev pub committers : List Entry → List ℕ
committers entries = map (λ version. committer_of version entries) (numbers (versions_in entries))

-- the versions that they make, one after another in this order
abbrev pub made_by : State (Unit {0}) → List ℕ → Replay (Unit {0})
made_by state order = serial_replay unannotated order (log_of state.entries) (length state.catalogue)

pub record IsSerialAs (state : State (Unit {0})) (order : List ℕ) : Type 0 where
  -- those that committed
  pub all : IsPermutation order (committers state.entries)
  -- a history in which they run one after another
  pub history : IsHistory unannotated (serial_log order (log_of state.entries)) (made_by state order).committed (made_by state order).written
  -- each of their statements changes the same rows
  pub changes : (t k : ℕ) (statement : Statement) → Contains order t → k < statement_count t state.entries
      → statement_at t (suc k) state.entries ≡ Some statement
      → IsPermutation (shown t (suc k) statement (start_by unannotated (log_of state.entries) t k state.committed))
      (shown t (suc k) statement (start_by unannotated (serial_log order (log_of state.entries)) t k (made_by state order).committed))
  -- each of their queries answers the same rows
  pub answers : (t k : ℕ) (select : Select) → Contains order t → k < statement_count t state.entries
      → statement_at t (suc k) state.entries ≡ Some (read select)
      → IsPermutation (cells_of (answer unannotated select (start_by unannotated (log_of state.entries) t k state.committed)))
      (cells_of (answer unannotated select (start_by unannotated (serial_log order (log_of state.entries)) t k (made_by state order).committed)))
  -- the last versions have the same rows
  pub last : (table : ℕ) → table < length state.catalogue
      → IsPermutation (map row_cells (state.committed (versions_in state.entries) table)) (map row_cells ((made_by state order).committed (length order) table))
