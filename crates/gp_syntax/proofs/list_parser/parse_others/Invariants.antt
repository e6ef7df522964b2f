use Rattle.std.proofs.Common.{◌≡◌, length}
use Rattle.gp_grammar.specs.Parsing.{strip}
use Rattle.gp_grammar.specs.CommandParsing as spec
use Rattle.gp_syntax.proofs.list_parser.parse_others.Given as goal

abbrev pub invariant-loop-after : goal.invariant-loop-after
invariant-loop-after g l =
    spec.many (strip l.separator) g.L.ParsedList.item spec.push (g.L.ParsedList.items l.initial.found) l.initial.rest
    ≡ spec.many (strip l.separator) g.L.ParsedList.item spec.push (g.L.ParsedList.items l.found) l.rest

abbrev pub decreases-loop-after : goal.decreases-loop-after
decreases-loop-after g l = length l.rest
