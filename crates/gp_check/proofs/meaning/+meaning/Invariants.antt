use Rattle.std.proofs.Common.{◌+◌, ◌*◌}
use Rattle.gp_grammar.specs.Limits.{nodes}
use Rattle.gp_syntax.specs.Views.{term_view}
use Rattle.gp_check.proofs.meaning.+meaning.Given as goal

abbrev pub decreases-expr : goal.decreases-expr
decreases-expr l = 4 * nodes (term_view l.term.now)

abbrev pub decreases-cond : goal.decreases-cond
decreases-cond l = 4 * nodes (term_view l.term.now)

abbrev pub decreases-operands : goal.decreases-operands
decreases-operands l = 4 * (nodes (term_view l.left.now) + nodes (term_view l.right.now)) + 1

abbrev pub decreases-conditions : goal.decreases-conditions
decreases-conditions l = 4 * (nodes (term_view l.left.now) + nodes (term_view l.right.now)) + 1

abbrev pub decreases-comparison : goal.decreases-comparison
decreases-comparison l = 4 * (nodes (term_view l.left.now) + nodes (term_view l.right.now)) + 2

abbrev pub decreases-arithmetic : goal.decreases-arithmetic
decreases-arithmetic l = 4 * (nodes (term_view l.left.now) + nodes (term_view l.right.now)) + 3

abbrev pub decreases-connection : goal.decreases-connection
decreases-connection l = 4 * (nodes (term_view l.left.now) + nodes (term_view l.right.now)) + 3

abbrev pub decreases-choice : goal.decreases-choice
decreases-choice l = 4 * (nodes (term_view l.when.now) + (nodes (term_view l.first.now) + nodes (term_view l.other.now))) + 3
