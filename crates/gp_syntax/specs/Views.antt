-- Of the contracts of `read_command`, `read_line` and `read_question`: the abstract syntax of the parsed values, without the pointers in their boxes.
use Rattle.std.specs.Prelude.{List, map, Option}
use Rattle.std.specs.Option.{option_map}
use Rattle.gp_grammar.specs.Syntax as y
use Rattle.gp_syntax.specs.declared.term.Term.{Term, Null, Int, Text, Col, Binary', Neg', Not', IsNull', IsTrue', Case'}
use Rattle.gp_syntax.specs.declared.command.SetTerm.{SetTerm}
use Rattle.gp_syntax.specs.declared.command.Item.{Item}
use Rattle.gp_syntax.specs.declared.command.Items.{Items}
use Rattle.gp_syntax.specs.declared.command.Items.TheVariants.{Star, List as Listed}
use Rattle.gp_syntax.specs.declared.command.Block.{Block}
use Rattle.gp_syntax.specs.declared.command.Query.{Query}
use Rattle.gp_syntax.specs.declared.command.Command.{Command}
use Rattle.gp_syntax.specs.declared.command.Command.TheVariants as c
use Rattle.gp_syntax.specs.declared.command.ScriptLine.{ScriptLine}
use Rattle.gp_syntax.specs.declared.question.Point.{Point}
use Rattle.gp_syntax.specs.declared.question.Point.TheVariants as s
use Rattle.gp_syntax.specs.declared.question.Rule.{Rule}
use Rattle.gp_syntax.specs.declared.question.How.{How}
use Rattle.gp_syntax.specs.declared.question.How.TheVariants as h
use Rattle.gp_syntax.specs.declared.question.LogChange.{LogChange}
use Rattle.gp_syntax.specs.declared.question.LogChange.TheVariants as l
use Rattle.gp_syntax.specs.declared.question.Subject.{Subject}
use Rattle.gp_syntax.specs.declared.question.Subject.TheVariants as u
use Rattle.gp_syntax.specs.declared.question.Side.{Side}
use Rattle.gp_syntax.specs.declared.question.Side.TheVariants as side
use Rattle.gp_syntax.specs.declared.question.Question.{Question}
use Rattle.gp_syntax.specs.declared.question.Question.TheVariants as q

abbrev pub term_view : Term → y.Term
term_view Null = y.null
term_view (Int n) = y.int n
term_view (Text bytes) = y.text bytes
term_view (Col item name) = y.col item name
term_view (Binary' op p a q b) = y.binary op (term_view a) (term_view b)
term_view (Neg' p a) = y.neg (term_view a)
term_view (Not' p a) = y.not (term_view a)
term_view (IsNull' p a holds) = y.is_null (term_view a) holds
term_view (IsTrue' p a holds) = y.is_true (term_view a) holds
term_view (Case' p a q b r c) = y.case (term_view a) (term_view b) (term_view c)

abbrev pub condition_view : Option Term → Option y.Term
condition_view = option_map term_view

abbrev pub set_view : SetTerm → y.SetTerm
set_view set = record { col = set.col; term = term_view set.term }

abbrev pub item_view : Item → y.Item
item_view item = record { table = item.table; name = item.name }

abbrev pub items_view : Items → y.Items
items_view Star = y.star
items_view (Listed terms) = y.list (map term_view terms)

abbrev pub block_view : Block → y.Block
block_view block = record { items = items_view block.items; from = map item_view block.from; cond = condition_view block.cond }

abbrev pub query_view : Query → y.Query
query_view query = map block_view query.blocks

abbrev pub command_view : Command → y.Command
command_view (c.Create table) = y.create table
command_view (c.Begin read_committed) = y.begin read_committed
command_view c.Commit = y.Command.commit
command_view c.Rollback = y.rollback
command_view (c.Insert table rows) = y.insert table rows
command_view (c.InsertSelect table query) = y.insert_select table (query_view query)
command_view (c.Update table sets cond) = y.update table (map set_view sets) (condition_view cond)
command_view (c.Delete table cond) = y.delete table (condition_view cond)
command_view (c.Select query) = y.select (query_view query)

abbrev pub line_view : ScriptLine → y.ScriptLine
line_view line = record { session = line.session; command = command_view line.command }

abbrev pub point_view : Point → y.Point
point_view (s.AsOf v) = y.as_of v
point_view (s.After t k) = y.after t k
point_view (s.Commit t) = y.Point.commit t

abbrev pub rule_view : Rule → y.Rule
rule_view rule = record { kind = rule.kind; t = rule.t; k = rule.k; n = rule.n; value = rule.value }

abbrev pub how_view : How → y.How
how_view h.Rows = y.rows
how_view h.Provenance = y.provenance
how_view (h.Explain prov) = y.explain prov
how_view (h.Value semiring rules other) = y.value semiring (map rule_view rules) other
how_view (h.Without rules) = y.without (map rule_view rules)

abbrev pub change_view : LogChange → y.LogChange
change_view (l.Drop t k) = y.drop t k
change_view (l.DropAll t) = y.drop_all t
change_view (l.Replace t k command) = y.replace t k (command_view command.value)
change_view (l.Add t command) = y.add t (command_view command.value)

abbrev pub changes_view : List LogChange → List y.LogChange
changes_view = map change_view

abbrev pub subject_view : Subject → y.Subject
subject_view (u.State how state) = y.of_state (how_view how) (point_view state)
subject_view (u.Saw t k) = y.saw t k

abbrev pub side_view : Side → y.Side
side_view (side.AsIs subject) = y.as_is (subject_view subject)
side_view (side.Changed changes subject) = y.changed (changes_view changes) (subject_view subject)

abbrev pub question_view : Question → y.Question
question_view q.Transactions = y.bare y.transactions
question_view (q.Log t) = y.bare (y.log t)
question_view (q.Versions table) = y.bare (y.versions table)
question_view (q.Changes t k) = y.bare (y.changes t k)
question_view (q.CommitChanges t) = y.bare (y.commit_changes t)
question_view (q.Conflicts t) = y.bare (y.conflicts t)
question_view (q.History table cond) = y.history table (condition_view cond)
question_view (q.When query) = y.when (query_view query)
question_view q.Serial = y.bare y.serial
question_view q.Anomalies = y.bare y.anomalies
question_view q.Check = y.bare y.check
question_view (q.Diff first second query) = y.diff (side_view first) (side_view second) (query_view query)
question_view (q.Causes subject query) = y.causes (subject_view subject) (query_view query)
question_view (q.Ask subject query) = y.ask (subject_view subject) (query_view query)
question_view (q.WhatIf changes subject query) = y.what_if (changes_view changes) (subject_view subject) (query_view query)
question_view (q.ExplainSaw t k query) = y.explain_saw t k (query_view query)
