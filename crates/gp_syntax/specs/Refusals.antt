-- Part of the statement: the refusal for each fault of a text.
use Rattle.gp_base.specs.declared.limit.Limit.{Limit}
use Rattle.gp_base.specs.declared.limit.Limit.TheVariants as limit
use Rattle.gp_base.specs.declared.refusal.Refusal.{Refusal}
use Rattle.gp_base.specs.declared.refusal.Refusal.TheVariants.{E01, E02, E03, E14, E16}
use Rattle.gp_grammar.specs.Limits as g
use Rattle.gp_grammar.specs.LineReading.{Fault, too_long, not_utf8, lexical, syntax, over}

abbrev pub limit_of : g.Limit → Limit
limit_of g.columns = limit.Columns
limit_of g.from = limit.From
limit_of g.branches = limit.Branches
limit_of g.values = limit.Values
limit_of g.node_count = limit.Nodes
limit_of g.depth = limit.Depth
limit_of g.change_count = limit.Changes

abbrev pub refusal_of_fault : Fault → Refusal
refusal_of_fault too_long = E16
refusal_of_fault not_utf8 = E01
refusal_of_fault (lexical column) = E02 column
refusal_of_fault (syntax column) = E03 column
refusal_of_fault (over limit) = E14 (limit_of limit)
