-- Part of the statement: what the check makes of a command or a query, which is its meaning or its first refusal.
use Rattle.std.specs.Prelude.{List, Option, Result, Ok, Err}
use Rattle.std.specs.Option.{option_map_or}
use Rattle.gp_base.specs.declared.refusal.Refusal.{Refusal}
use Rattle.gp_base.specs.declared.table.Table.{Table}
use Rattle.gp_grammar.specs.Syntax as y
use Rattle.gp_grammar.specs.Syntax.{Query, Command}
use Rattle.gp_algebra.specs.Statements.{Select, Statement}
use Rattle.gp_check.specs.Faults.{first_refusal}
use Rattle.gp_check.specs.Meaning.{select_of, meant_statement}

abbrev pub refused_by : {A : Type 0} → Option Refusal → A → Result A Refusal
refused_by fault meaning = option_map_or Err fault (Ok meaning)

abbrev pub checked : List Table → Command → Result Statement Refusal
checked tables command = refused_by (first_refusal tables command) (meant_statement tables command)

-- a query of a question is checked like that of a SELECT
abbrev pub checked_query : List Table → Query → Result Select Refusal
checked_query tables query = refused_by (first_refusal tables (y.select query)) (select_of tables query)
