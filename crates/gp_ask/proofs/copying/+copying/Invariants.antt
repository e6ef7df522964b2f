use Rattle.std.proofs.Common.{◌+◌, ◌*◌}
use Rattle.gp_syntax.specs.Views.{term_view}
use Rattle.gp_ask.proofs.TermSizes.{term_size}
use Rattle.gp_ask.proofs.copying.+copying.Given as goal

abbrev pub decreases-copy_term : goal.decreases-copy_term
decreases-copy_term l = 4 * term_size (term_view l.term.now)

abbrev pub decreases-copy_boxed : goal.decreases-copy_boxed
decreases-copy_boxed l = 4 * term_size (term_view l.term.now) + 1

abbrev pub decreases-copy_both : goal.decreases-copy_both
decreases-copy_both l = 4 * (term_size (term_view l.left.now) + term_size (term_view l.right.now)) + 2

abbrev pub decreases-copy_case : goal.decreases-copy_case
decreases-copy_case l = 4 * (term_size (term_view l.when.now) + (term_size (term_view l.first.now) + term_size (term_view l.other.now))) + 3
