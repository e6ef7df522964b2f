use Rattle.std.proofs.Common.{arith}
use Rattle.std.proofs.lemmas.Grind.{common_steps}
use Rattle.gp_semiring.proofs.TermLemmas.{with_term_sorted}
use Rattle.gp_semiring.proofs.terms.add_row.Goals as goal

pub loop-other-preserved : goal.loop-other-preserved
loop-other-preserved c = record {
  rest = grind (arith, common_steps);
  sorted = rw c.in_ok-add_term.ensures (with_term_sorted c.in_ok-times.field-0 c.saturating_mul.result c.loop-other.terms.items c.loop-other.invariant.sorted);
}
