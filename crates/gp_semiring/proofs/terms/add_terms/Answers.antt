use Rattle.std.proofs.Common.{arith}
use Rattle.std.proofs.lemmas.Grind.{common_steps}
use Rattle.gp_semiring.proofs.TermLemmas.{with_term_sorted}
use Rattle.gp_semiring.proofs.terms.add_terms.Goals as goal

pub loop-other-preserved : goal.loop-other-preserved
loop-other-preserved c = record {
  rest = grind (arith, common_steps);
  sorted = rw c.in_ok-add_term.ensures (with_term_sorted c.in_ok-clone.field-0 c.other-item.result.1 c.loop-other.terms.items c.loop-other.invariant.sorted);
}
