use Rattle.std.proofs.Common.{arith}
use Rattle.gp_base.proofs.IdentityLemmas.{nodes_in-others}
use Rattle.gp_versions.proofs.key.+fold.Goals as goal

pub fold_all-fold_all-requires : goal.fold_all-fold_all-requires
fold_all-fold_all-requires t c = (omega (arith, nodes_in-others c.args.ids.now c.in-len1-up.len_at_least), tt)
