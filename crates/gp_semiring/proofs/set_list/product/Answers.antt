use Rattle.std.proofs.Common.{arith}
use Rattle.std.proofs.lemmas.Grind.{common_steps}
use Rattle.gp_semiring.proofs.SetLemmas.{rising_row}
use Rattle.gp_semiring.proofs.set_list.product.Goals as goal

pub loop-set-preserved : goal.loop-set-preserved
loop-set-preserved c = record {
  rest = grind (arith, common_steps);
  rising = rw c.in_ok-all.ensures (rising_row c.set-item.result c.args.right.now c.loop-set.all.items c.loop-set.invariant.rising);
}
