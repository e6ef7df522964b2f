-- Part of the statement: when each transaction of a history was isolated as its BEGIN says, and the first committer of a row won. Both are said by the log and
-- by the versions alone, whatever the history machine did.
use Rattle.std.specs.Prelude.{◌≡◌, ℕ, ◌<◌, ◌≤◌}
use Rattle.std.specs.List.{AllByRecursion}
use Rattle.gp_base.specs.declared.refusal.Fate.TheVariants.{Lost}
use Rattle.gp_base.specs.Annotated.{monomials}
use Rattle.gp_base.specs.Tokens.{Monomial}
use Rattle.gp_machine.specs.Entries.{fate_of, log_of, statement_count, transactions_in, versions_in}
use Rattle.gp_machine.specs.Histories.{IsFirst, IsHistory}
use Rattle.gp_machine.specs.ReadBy.{seen_by}
use Rattle.gp_machine.specs.State.{State}

pub record IsIsolated (state : State Monomial) : Type 0 where
  -- Each version is the one before it with the rows that its commit wrote, and no row that it wrote was written by a commit after the base of the row.
  pub history : IsHistory monomials (log_of state.entries) state.committed state.written
  -- What a transaction read after each of its statements, whatever became of it, is what these leave of the versions that they read, and nothing else.
  pub reads : (t k : ℕ) → 0 < t → t ≤ transactions_in state.entries → k ≤ statement_count t state.entries
      → state.views t k ≡ (seen_by monomials (log_of state.entries) t k state.committed).view

-- No transaction was lost of whose rows none was written by a commit after its base.
abbrev pub LosesToFirst : State Monomial → Type 0
LosesToFirst state = (t : ℕ) → fate_of t state.entries ≡ Lost
    → AllByRecursion (IsFirst state.written (versions_in state.entries)) (seen_by monomials (log_of state.entries) t (statement_count t state.entries) state.committed).written → ⊥
