-- Part of the statement: what the history machine is given: the check of commands, and the limits. A limit is passed where the count would be
-- greater than its number.
use Rattle.std.specs.Prelude.{ℕ, List, Option, Result}
use Rattle.gp_base.specs.declared.refusal.Refusal.{Refusal}
use Rattle.gp_base.specs.declared.table.Table.{Table}
use Rattle.gp_grammar.specs.Syntax.{Command}
use Rattle.gp_algebra.specs.Statements.{Statement}

pub record Parameters : Type 0 where
  -- the statement that a command means on these tables, or the refusal of its names and types
  pub checked : List Table → Command → Result Statement Refusal
  -- the refusal of the names of a new table beside these, if there is one
  pub created : List Table → Table → Option Refusal
  -- the tables, the transactions, the statements of a transaction, and all statements
  pub tables : ℕ
  pub transactions : ℕ
  pub steps : ℕ
  pub statements : ℕ
  -- the rows that an INSERT may leave in its table, and the nodes of an identity that it makes
  pub rows : ℕ
  pub nodes : ℕ
  -- the rows of an answer
  pub answer : ℕ
  -- the rows that all commits publish
  pub published : ℕ
