-- Of the laws `commits_publish_the_spans` and `histories_are_made_again`, as their premise: checked statements write tables that are there.
use Rattle.std.specs.Prelude.{◌≡◌, ℕ, ◌<◌, List, length, Ok}
use Rattle.gp_base.specs.declared.table.Table.{Table}
use Rattle.gp_grammar.specs.Syntax.{Command}
use Rattle.gp_algebra.specs.Statements.{Statement, insert, insert_select, update, delete, read}
use Rattle.gp_machine.specs.Parameters.{Parameters}

-- the table that a statement writes is there
abbrev pub HasTarget : ℕ → Statement → Type 0
HasTarget tables (insert table rows) = table < tables
HasTarget tables (insert_select table select) = table < tables
HasTarget tables (update table sets c) = table < tables
HasTarget tables (delete table c) = table < tables
HasTarget tables (read select) = Unit {0}

-- the check passes no statement that writes a table that is not there
abbrev pub ChecksTargets : Parameters → Type 0
ChecksTargets parameters =
    (tables : List Table) (command : Command) (statement : Statement) → parameters.checked tables command ≡ Ok statement → HasTarget (length tables) statement
