use Rattle.std.proofs.Common.{List, subst, sym, Contains}
use Rattle.gp_algebra.specs.declared.plain.ScanAt.{ScanAt}
use Rattle.gp_reenact.proofs.replay.rows_over.Goals as goal

pub rows_in_env-requires : goal.rows_in_env-requires
rows_in_env-requires g c = record {
  built = c.requires;
  asked = λ scan there. subst (λ (scans : List ScanAt). Contains scans scan) (sym c.deref-in-Ok-None.ensures.value) ((c.in_ok-asked.ensures.exact scan).1 there);
}
