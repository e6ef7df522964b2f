-- A command does what its action does.
use Rattle.gp_machine.proofs.Prelude.{◌≡◌, ℕ, Option, Some, None, refl, ap, Annotations, Command, action_of, answered, event, Parameters, State}
use Rattle.gp_grammar.specs.Syntax as y
use Rattle.gp_machine.specs.Actions.{allowed}
use Rattle.gp_machine.specs.ActionForms.{allowed_to}
use Rattle.gp_machine.specs.Event.{doing}

pub allowed-is : {A : Type 0} (active : Option A) (command : Command) → allowed active command ≡ allowed_to active (action_of command)
allowed-is None (y.create table) = refl
allowed-is None (y.begin read_committed) = refl
allowed-is None y.Command.commit = refl
allowed-is None y.rollback = refl
allowed-is None (y.insert table rows) = refl
allowed-is None (y.insert_select table query) = refl
allowed-is None (y.update table sets condition) = refl
allowed-is None (y.delete table condition) = refl
allowed-is None (y.select query) = refl
allowed-is (Some active) (y.create table) = refl
allowed-is (Some active) (y.begin read_committed) = refl
allowed-is (Some active) y.Command.commit = refl
allowed-is (Some active) y.rollback = refl
allowed-is (Some active) (y.insert table rows) = refl
allowed-is (Some active) (y.insert_select table query) = refl
allowed-is (Some active) (y.update table sets condition) = refl
allowed-is (Some active) (y.delete table condition) = refl
allowed-is (Some active) (y.select query) = refl

pub event-answered : {M : Type 0} (domain : Annotations M) (parameters : Parameters) (state : State M) (line session : ℕ) (command : Command)
    → event domain parameters state line session command ≡ answered domain parameters state line session (state.active session) (action_of command)
event-answered domain parameters state line session command = ap (doing domain parameters state line session) (allowed-is (state.active session) command)
