use Rattle.std.proofs.Common.{◌+◌, ◌*◌}
use Rattle.gp_syntax.specs.Views.{term_view}
use Rattle.gp_ask.proofs.TermSizes.{term_size}
use Rattle.gp_ask.proofs.comparing.+comparing.Given as goal

abbrev pub decreases-is_same_term : goal.decreases-is_same_term
decreases-is_same_term l = 2 * term_size (term_view l.term.now)

abbrev pub decreases-is_binary : goal.decreases-is_binary
decreases-is_binary l = 2 * (term_size (term_view l.left.now) + term_size (term_view l.right.now)) + 1

abbrev pub decreases-is_negated : goal.decreases-is_negated
decreases-is_negated l = 2 * term_size (term_view l.part.now) + 1

abbrev pub decreases-is_not : goal.decreases-is_not
decreases-is_not l = 2 * term_size (term_view l.part.now) + 1

abbrev pub decreases-is_null_test : goal.decreases-is_null_test
decreases-is_null_test l = 2 * term_size (term_view l.part.now) + 1

abbrev pub decreases-is_truth_test : goal.decreases-is_truth_test
decreases-is_truth_test l = 2 * term_size (term_view l.part.now) + 1

abbrev pub decreases-is_case : goal.decreases-is_case
decreases-is_case l = 2 * (term_size (term_view l.when.now) + (term_size (term_view l.first.now) + term_size (term_view l.last.now))) + 1
