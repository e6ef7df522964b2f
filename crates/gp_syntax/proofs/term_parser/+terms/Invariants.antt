use Rattle.std.proofs.Common.{◌≡◌, ◌<◌, length, ◌+◌, ◌*◌}
use Rattle.gp_grammar.specs.Operators.{operator_of}
use Rattle.gp_grammar.specs.Parsing as spec
use Rattle.gp_syntax.specs.Parses.{built_view}
use Rattle.gp_syntax.proofs.Ranks.{rank}
use Rattle.gp_syntax.proofs.term_parser.+terms.Given as goal

abbrev pub decreases-brackets : goal.decreases-brackets
decreases-brackets l = 16 * length l.lexemes.now + 14

abbrev pub decreases-term_before : goal.decreases-term_before
decreases-term_before l = 16 * length l.lexemes.now + 13

abbrev pub decreases-primary_by : goal.decreases-primary_by
decreases-primary_by l = 16 * length l.lexemes.now + 15

abbrev pub decreases-choice : goal.decreases-choice
decreases-choice l = 16 * length l.lexemes.now + 14

abbrev pub decreases-compared : goal.decreases-compared
decreases-compared l = 16 * length l.lexemes.now + 15

abbrev pub decreases-factor : goal.decreases-factor
decreases-factor l = 16 * length l.lexemes.now + 1

abbrev pub decreases-operations : goal.decreases-operations
decreases-operations l = 16 * length l.lexemes.now + rank l.at + 1

abbrev pub decreases-negation : goal.decreases-negation
decreases-negation l = 16 * length l.lexemes.now + 7

abbrev pub decreases-operand : goal.decreases-operand
decreases-operand l = 16 * length l.lexemes.now + rank l.at

abbrev pub decreases-primary : goal.decreases-primary
decreases-primary l = 16 * length l.lexemes.now

abbrev pub decreases-built_term : goal.decreases-built_term
decreases-built_term l = 16 * length l.lexemes.now + 12

abbrev pub decreases-test : goal.decreases-test
decreases-test l = 16 * length l.lexemes.now + 6

abbrev pub invariant-operations-loop-op : goal.invariant-operations-loop-op
invariant-operations-loop-op l =
    (spec.operations spec.term l.at l.fn.lexemes ≡ spec.chain (operator_of l.at) (spec.operand spec.term l.at) (built_view l.left) l.rest)
    × (length l.rest < length l.fn.lexemes)

abbrev pub decreases-operations-loop-op : goal.decreases-operations-loop-op
decreases-operations-loop-op l = length l.rest
