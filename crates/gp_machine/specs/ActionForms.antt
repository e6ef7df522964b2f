-- Machinery: commands by what they ask for, where INSERT, UPDATE, DELETE and SELECT are one case. Contracts of engines and proofs by
-- cases use them; the law `allowed-is` says that a command does what its action does.
use Rattle.std.specs.Prelude.{ℕ, Bool, Option, None, Some, Result, Ok, Err}
use Rattle.gp_base.specs.declared.refusal.Refusal.{Refusal}
use Rattle.gp_base.specs.declared.refusal.Refusal.TheVariants.{E09, E10}
use Rattle.gp_base.specs.declared.table.Table.{Table}
use Rattle.gp_base.specs.Annotated.{Annotations}
use Rattle.gp_grammar.specs.Syntax as y
use Rattle.gp_grammar.specs.Syntax.{Command}
use Rattle.gp_machine.specs.declared.reply.Reply.{Reply}
use Rattle.gp_machine.specs.Actions.{Allowed, Creates, Begins, Commits, RollsBack, Runs}
use Rattle.gp_machine.specs.Event.{doing}
use Rattle.gp_machine.specs.Parameters.{Parameters}
use Rattle.gp_machine.specs.State.{Active, State}

pub data Action : Type 0 where
  Create : Table → Action
  -- whether the transaction is read committed
  Begin : Bool → Action
  Commit Rollback : Action
  Run : Command → Action

abbrev pub action_of : Command → Action
action_of (y.create table) = Create table
action_of (y.begin read_committed) = Begin read_committed
action_of y.Command.commit = Commit
action_of y.rollback = Rollback
action_of command = Run command

-- what a session may do with the commands of an action, or why it may not
abbrev pub allowed_to : {A : Type 0} → Option A → Action → Result (Allowed A) Refusal
allowed_to None (Create table) = Ok (Creates table)
allowed_to None (Begin read_committed) = Ok (Begins read_committed)
allowed_to None Commit = Err E10
allowed_to None Rollback = Err E10
allowed_to None (Run command) = Err E10
allowed_to (Some active) (Create table) = Err E09
allowed_to (Some active) (Begin read_committed) = Err E09
allowed_to (Some active) Commit = Ok (Commits active)
allowed_to (Some active) Rollback = Ok (RollsBack active)
allowed_to (Some active) (Run command) = Ok (Runs active command)

-- what an action does in a session with this transaction, or without one
abbrev pub answered : {M : Type 0} → Annotations M → Parameters → State M → ℕ → ℕ → Option (Active M) → Action → State M × Reply
answered domain parameters state line session active action = doing domain parameters state line session (allowed_to active action)
