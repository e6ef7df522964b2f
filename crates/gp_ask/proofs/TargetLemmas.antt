-- The check passes no statement that writes a table that is not there.
use Rattle.std.proofs.Common.{◌≡◌, ◌<◌, List, length, Option, Some, None, Ok, refl, ap, subst}
use Rattle.std.specs.Option.{option_or}
use Rattle.std.proofs.lemmas.Bool.{ltb-true}
use Rattle.std.specs.Result.{result_unwrap_or}
use Rattle.gp_base.specs.declared.refusal.Refusal.{Refusal}
use Rattle.gp_base.specs.declared.table.Table.{Table}
use Rattle.gp_grammar.specs.Syntax as y
use Rattle.gp_grammar.specs.Syntax.{Bytes, Command}
use Rattle.gp_check.specs.Checking.{refused_by}
use Rattle.gp_check.specs.Faults.{first_refusal, query_tables_fault, table_fault}
use Rattle.gp_check.specs.Meaning.{number_of_table, meant_statement}
use Rattle.gp_check.proofs.FittingLemmas.{known, none_of}
use Rattle.gp_log.specs.Parameters.{parameters}
use Rattle.gp_machine.specs.CheckedTargets.{ChecksTargets, HasTarget}

there : (tables : List Table) (name : Bytes) → table_fault tables name ≡ None → number_of_table tables name < length tables
there tables name none = ltb-true (number_of_table tables name) (length tables) (known tables name none)

target : (tables : List Table) (command : Command) → first_refusal tables command ≡ None → HasTarget (length tables) (meant_statement tables command)
target tables (y.create table) none = tt
target tables (y.begin read_committed) none = tt
target tables y.Command.commit none = tt
target tables y.rollback none = tt
target tables (y.insert table rows) none = there tables table (none_of (table_fault tables table) _ none).0
target tables (y.insert_select table query) none =
    there tables table (none_of (table_fault tables table) _ (none_of (option_or (table_fault tables table) (query_tables_fault tables query)) _ none).0).0
target tables (y.update table sets cond) none = there tables table (none_of (table_fault tables table) _ none).0
target tables (y.delete table cond) none = there tables table (none_of (table_fault tables table) _ none).0
target tables (y.select query) none = tt

pub targets-checked : ChecksTargets parameters
targets-checked tables command statement is = by (first_refusal tables command) refl is
  where
    by : (refusal : Option Refusal) → first_refusal tables command ≡ refusal → refused_by refusal (meant_statement tables command) ≡ Ok statement → HasTarget (length tables) statement
    by None none is = subst (HasTarget (length tables)) (ap (λ r. result_unwrap_or r (meant_statement tables command)) is) (target tables command none)
    by (Some refusal) none is = absurd cc
