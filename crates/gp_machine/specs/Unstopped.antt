-- Of the law `unstopped_histories_answer_their_questions`, as its premise: a state whose versions are a history in which no transaction that made a version
-- passes a limit. Every state that the history machine reaches is such, and so is what commits made again lead to, if none stops.
use Rattle.std.specs.Prelude.{◌≡◌, ℕ, suc, ◌≤◌, ◌<◌, None}
use Rattle.gp_base.specs.Annotated.{Annotations}
use Rattle.gp_machine.specs.Entries.{committer_of, log_of, statement_count, versions_in}
use Rattle.gp_machine.specs.Histories.{IsHistory}
use Rattle.gp_machine.specs.Parameters.{Parameters}
use Rattle.gp_machine.specs.Points.{run_stop}
use Rattle.gp_machine.specs.Runs.{run}
use Rattle.gp_machine.specs.State.{State}

pub record IsUnstopped {M : Type 0} (domain : Annotations M) (parameters : Parameters) (state : State M) : Type 0 where
  -- the versions are those of a history with this log
  pub history : IsHistory domain (log_of state.entries) state.committed state.written
  -- what a transaction that made a version read after each of its statements is what its run over the versions gives
  pub views : (u k : ℕ) → u < versions_in state.entries → k ≤ statement_count (committer_of (suc u) state.entries) state.entries
      → state.views (committer_of (suc u) state.entries) k ≡ run domain (log_of state.entries) (committer_of (suc u) state.entries) k state.committed
  -- none of its statements stops
  pub runs : (u : ℕ) → u < versions_in state.entries
      → run_stop domain parameters (log_of state.entries) (committer_of (suc u) state.entries) (statement_count (committer_of (suc u) state.entries) state.entries) state.committed ≡ None
