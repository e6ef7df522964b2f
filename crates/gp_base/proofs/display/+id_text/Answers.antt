use Rattle.std.proofs.Common.{arith}
use Rattle.gp_base.proofs.IdentityLemmas.{nodes_in-others}
use Rattle.gp_base.proofs.display.+id_text.Goals as goal

pub push_others-push_others-requires : goal.push_others-push_others-requires
push_others-push_others-requires t c = (omega (arith, nodes_in-others c.args.ids.now c.in-len1-up.len_at_least), tt)

pub push_sources-push_others-requires : goal.push_sources-push_others-requires
push_sources-push_others-requires t c = (omega (arith, nodes_in-others c.args.ids.now c.in-len1-up.len_at_least), tt)
