use Rattle.std.proofs.Common.{arith}
use Rattle.std.proofs.lemmas.Grind.{common_steps}
use Rattle.gp_semiring.proofs.SetLemmas.{rising_with}
use Rattle.gp_semiring.proofs.set_list.with_unions_of.Goals as goal

pub loop-other-preserved : goal.loop-other-preserved
loop-other-preserved c = record {
  rest = grind (arith, common_steps);
  rising = rw c.in_ok-all.ensures (rising_with c.in_ok-union.field-0 c.loop-other.all.items c.loop-other.invariant.rising);
}
