-- Which commands are statements.
use Rattle.std.proofs.Common.{◌≡◌, true, refl}
use Rattle.gp_grammar.specs.Syntax as y
use Rattle.gp_grammar.specs.Syntax.{is_statement}
use Rattle.gp_machine.specs.ActionForms.{Run, action_of}

-- a statement runs
pub statement-runs : (command : y.Command) → is_statement command ≡ true → action_of command ≡ Run command
statement-runs (y.create table) is = absurd cc
statement-runs (y.begin read_committed) is = absurd cc
statement-runs y.Command.commit is = absurd cc
statement-runs y.rollback is = absurd cc
statement-runs (y.insert table rows) is = refl
statement-runs (y.insert_select table query) is = refl
statement-runs (y.update table sets cond) is = refl
statement-runs (y.delete table cond) is = refl
statement-runs (y.select query) is = refl
