use Rattle.std.proofs.Common.{◌≡◌, map, length}
use Rattle.gp_grammar.specs.QuestionParsing as spec
use Rattle.gp_syntax.specs.Views.{rule_view}
use Rattle.gp_syntax.proofs.question_parser.push_rules.Given as goal

abbrev pub invariant-loop-after : goal.invariant-loop-after
invariant-loop-after l = spec.rules_from (map rule_view l.initial.found) l.initial.rest ≡ spec.rules_from (map rule_view l.found) l.rest

abbrev pub decreases-loop-after : goal.decreases-loop-after
decreases-loop-after l = length l.rest
