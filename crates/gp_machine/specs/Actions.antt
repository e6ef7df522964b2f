-- Part of the statement: what a session may do with a command, or why it may not.
use Rattle.std.specs.Prelude.{Bool, Option, None, Some, Result, Ok, Err}
use Rattle.gp_base.specs.declared.refusal.Refusal.{Refusal}
use Rattle.gp_base.specs.declared.refusal.Refusal.TheVariants.{E09, E10}
use Rattle.gp_base.specs.declared.table.Table.{Table}
use Rattle.gp_grammar.specs.Syntax as y
use Rattle.gp_grammar.specs.Syntax.{Command}

-- what is done, with the active transaction of the session where it has one
pub data Allowed (A : Type 0) : Type 0 where
  Creates : Table → Allowed A
  -- whether the transaction is read committed
  Begins : Bool → Allowed A
  Commits RollsBack : A → Allowed A
  -- INSERT, UPDATE, DELETE and SELECT are statements, which run in a transaction
  Runs : A → Command → Allowed A

-- CREATE TABLE and BEGIN are allowed only outside a transaction, all else only inside one.
abbrev pub allowed : {A : Type 0} → Option A → Command → Result (Allowed A) Refusal
allowed None (y.create table) = Ok (Creates table)
allowed None (y.begin read_committed) = Ok (Begins read_committed)
allowed None command = Err E10
allowed (Some active) (y.create table) = Err E09
allowed (Some active) (y.begin read_committed) = Err E09
allowed (Some active) y.Command.commit = Ok (Commits active)
allowed (Some active) y.rollback = Ok (RollsBack active)
allowed (Some active) command = Ok (Runs active command)
