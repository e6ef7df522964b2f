use Rattle.std.proofs.Common.{◌+◌, ◌*◌}
use Rattle.gp_grammar.specs.Limits.{nodes}
use Rattle.gp_syntax.specs.Views.{term_view}
use Rattle.gp_syntax.proofs.canonical.+term_writers.Given as goal

abbrev pub decreases-push_term : goal.decreases-push_term
decreases-push_term l = 2 * nodes (term_view l.term.now)

abbrev pub decreases-push_signed : goal.decreases-push_signed
decreases-push_signed l = 2 * nodes (term_view l.part.now) + 1

abbrev pub decreases-push_tested : goal.decreases-push_tested
decreases-push_tested l = 2 * nodes (term_view l.part.now) + 1

abbrev pub decreases-push_binary : goal.decreases-push_binary
decreases-push_binary l = 2 * (nodes (term_view l.left.now) + nodes (term_view l.right.now)) + 1

abbrev pub decreases-push_case : goal.decreases-push_case
decreases-push_case l = 2 * (nodes (term_view l.when.now) + nodes (term_view l.first.now) + nodes (term_view l.other.now)) + 1
