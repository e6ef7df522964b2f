-- Machinery: terms that stop growing. A chain of operators is as deep as it is long, and a text has no limit on its length where it
-- stands in a dump. So the parser builds by constructors that keep a part with more than MAX_NODES nodes for the whole: no term that
-- it holds has more than 3 * MAX_NODES + 1 nodes, and no recursion goes deeper. Terms within the limit are built as they are.
use Rattle.std.specs.Prelude.{Bool, map, option_map, nat_lt, if◌then◌else◌}
use Rattle.gp_grammar.specs.declared.limits.TheConstants.{MAX_NODES}
use Rattle.gp_grammar.specs.declared.op.Op.{Op}
use Rattle.gp_grammar.specs.Syntax as y
use Rattle.gp_grammar.specs.Syntax.{Term, SetTerm, Items, Block, Query, Command, ScriptLine, LogChange, Side, Question}
use Rattle.gp_grammar.specs.Limits.{nodes}

abbrev pub is_large : Term → Bool
is_large x = nat_lt MAX_NODES (nodes x)

unfoldable pub binary : Op → Term → Term → Term
binary o a b = if is_large a then a else (if is_large b then b else y.binary o a b)

unfoldable pub neg : Term → Term
neg a = if is_large a then a else y.neg a

unfoldable pub not : Term → Term
not a = if is_large a then a else y.not a

unfoldable pub is_null : Term → Bool → Term
is_null a holds = if is_large a then a else y.is_null a holds

unfoldable pub is_true : Term → Bool → Term
is_true a holds = if is_large a then a else y.is_true a holds

unfoldable pub case : Term → Term → Term → Term
case a b c = if is_large a then a else (if is_large b then b else (if is_large c then c else y.case a b c))

-- what the parser builds for a term
abbrev pub capped : Term → Term
capped y.null = y.null
capped (y.int n) = y.int n
capped (y.text bytes) = y.text bytes
capped (y.col item name) = y.col item name
capped (y.binary o a b) = binary o (capped a) (capped b)
capped (y.neg a) = neg (capped a)
capped (y.not a) = not (capped a)
capped (y.is_null a holds) = is_null (capped a) holds
capped (y.is_true a holds) = is_true (capped a) holds
capped (y.case a b c) = case (capped a) (capped b) (capped c)

-- ---- each term of a command or a question

abbrev pub capped_set : SetTerm → SetTerm
capped_set set = record { col = set.col; term = capped set.term }

abbrev pub capped_items : Items → Items
capped_items y.star = y.star
capped_items (y.list xs) = y.list (map capped xs)

abbrev pub capped_block : Block → Block
capped_block block = record { items = capped_items block.items; from = block.from; cond = option_map capped block.cond }

abbrev pub capped_command : Command → Command
capped_command (y.create table) = y.create table
capped_command (y.begin read_committed) = y.begin read_committed
capped_command y.Command.commit = y.Command.commit
capped_command y.rollback = y.rollback
capped_command (y.insert table rows) = y.insert table rows
capped_command (y.insert_select table query) = y.insert_select table (map capped_block query)
capped_command (y.update table sets cond) = y.update table (map capped_set sets) (option_map capped cond)
capped_command (y.delete table cond) = y.delete table (option_map capped cond)
capped_command (y.select query) = y.select (map capped_block query)

abbrev pub capped_line : ScriptLine → ScriptLine
capped_line line = record { session = line.session; command = capped_command line.command }

abbrev pub capped_change : LogChange → LogChange
capped_change (y.drop t k) = y.drop t k
capped_change (y.drop_all t) = y.drop_all t
capped_change (y.replace t k command) = y.replace t k (capped_command command)
capped_change (y.add t command) = y.add t (capped_command command)

abbrev pub capped_side : Side → Side
capped_side (y.as_is subject) = y.as_is subject
capped_side (y.changed changes subject) = y.changed (map capped_change changes) subject

abbrev pub capped_question : Question → Question
capped_question (y.bare question) = y.bare question
capped_question (y.history table cond) = y.history table (option_map capped cond)
capped_question (y.when query) = y.when (map capped_block query)
capped_question (y.diff first second query) = y.diff (capped_side first) (capped_side second) (map capped_block query)
capped_question (y.causes subject query) = y.causes subject (map capped_block query)
capped_question (y.ask subject query) = y.ask subject (map capped_block query)
capped_question (y.what_if changes subject query) = y.what_if (map capped_change changes) subject (map capped_block query)
capped_question (y.explain_saw t k query) = y.explain_saw t k (map capped_block query)
