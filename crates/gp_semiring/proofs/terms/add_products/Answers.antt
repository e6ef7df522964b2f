use Rattle.std.proofs.Common.{arith}
use Rattle.std.proofs.lemmas.Grind.{common_steps}
use Rattle.gp_semiring.proofs.TermLemmas.{with_row_sorted}
use Rattle.gp_semiring.proofs.terms.add_products.Goals as goal

pub loop-term-preserved : goal.loop-term-preserved
loop-term-preserved c = record {
  rest = grind (arith, common_steps);
  sorted = rw c.in_ok-add_row.ensures (with_row_sorted c.term-item.result.0 c.term-item.result.1 c.args.right.now c.loop-term.terms.items c.loop-term.invariant.sorted);
}
