-- Of the contract of `check`, as its premises, and of the law `read_commands_are_valid`: valid commands, queries and tables. What the check makes of a valid
-- command over valid tables fits them, and every command, line and question that was read from a text is valid (`read_lines_are_valid`,
-- `read_questions_are_valid`).
use Rattle.std.specs.Prelude.{nat_lt, Bool, true, ◌&&◌, List, length, Option, Some, None}
use Rattle.std.specs.List.{list_all}
use Rattle.gp_base.specs.declared.cell.Cell.TheVariants as cell
use Rattle.gp_base.specs.declared.table.Table.{Table}
use Rattle.gp_base.specs.UserCells.{is_user_cell}
use Rattle.gp_grammar.specs.Syntax as y
use Rattle.gp_grammar.specs.Syntax.{Term, SetTerm, Items, Block, Query, Command, LogChange, Side, Question}
use Rattle.gp_algebra.specs.Fitting.{is_countable}

-- the literals of a term are cells that a user can write
abbrev pub term_is_valid : Term → Bool
term_is_valid y.null = true
term_is_valid (y.int n) = is_user_cell (cell.Int n)
term_is_valid (y.text bytes) = is_user_cell (cell.Text bytes)
term_is_valid (y.col item name) = true
term_is_valid (y.binary o x z) = term_is_valid x && term_is_valid z
term_is_valid (y.neg x) = term_is_valid x
term_is_valid (y.not x) = term_is_valid x
term_is_valid (y.is_null x holds) = term_is_valid x
term_is_valid (y.is_true x holds) = term_is_valid x
term_is_valid (y.case x z u) = term_is_valid x && (term_is_valid z && term_is_valid u)

abbrev pub condition_is_valid : Option Term → Bool
condition_is_valid None = true
condition_is_valid (Some term) = term_is_valid term

-- a written select list has a term
abbrev pub items_are_valid : Items → Bool
items_are_valid y.star = true
items_are_valid (y.list terms) = nat_lt 0 (length terms) && list_all term_is_valid terms

-- a FROM has a table
abbrev pub block_is_valid : Block → Bool
block_is_valid block = nat_lt 0 (length block.from) && (items_are_valid block.items && condition_is_valid block.cond)

abbrev pub query_is_valid : Query → Bool
query_is_valid query = is_countable query && list_all block_is_valid query

abbrev pub set_is_valid : SetTerm → Bool
set_is_valid set = term_is_valid set.term

-- a table has a column
abbrev pub table_is_valid : Table → Bool
table_is_valid table = nat_lt 0 (length table.cols)

abbrev pub tables_are_valid : List Table → Bool
tables_are_valid = list_all table_is_valid

-- a VALUES has a tuple
abbrev pub is_valid : Command → Bool
is_valid (y.insert table rows) = is_countable rows && list_all (list_all is_user_cell) rows
is_valid (y.insert_select table query) = query_is_valid query
is_valid (y.update table sets cond) = list_all set_is_valid sets && condition_is_valid cond
is_valid (y.delete table cond) = condition_is_valid cond
is_valid (y.select query) = query_is_valid query
is_valid (y.create table) = table_is_valid table
is_valid _ = true

-- the command of a change, if it has one
abbrev pub change_is_valid : LogChange → Bool
change_is_valid (y.drop t k) = true
change_is_valid (y.drop_all t) = true
change_is_valid (y.replace t k command) = is_valid command
change_is_valid (y.add t command) = is_valid command

abbrev pub changes_are_valid : List LogChange → Bool
changes_are_valid = list_all change_is_valid

abbrev pub side_is_valid : Side → Bool
side_is_valid (y.as_is subject) = true
side_is_valid (y.changed changes subject) = changes_are_valid changes

-- the query or the condition of a question and the commands of its changes, if it has them
abbrev pub question_is_valid : Question → Bool
question_is_valid (y.bare question) = true
question_is_valid (y.history table cond) = condition_is_valid cond
question_is_valid (y.when query) = query_is_valid query
question_is_valid (y.diff first second query) = (side_is_valid first && side_is_valid second) && query_is_valid query
question_is_valid (y.causes subject query) = query_is_valid query
question_is_valid (y.ask subject query) = query_is_valid query
question_is_valid (y.what_if changes subject query) = changes_are_valid changes && query_is_valid query
question_is_valid (y.explain_saw t k query) = query_is_valid query
