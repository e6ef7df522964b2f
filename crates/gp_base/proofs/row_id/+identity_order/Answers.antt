use Rattle.std.proofs.Common.{arith}
use Rattle.gp_base.proofs.IdentityLemmas.{nodes_in-others, none_is_less}
use Rattle.gp_base.proofs.row_id.+identity_order.Goals as goal

pub compare_sources-compare_sources-requires : goal.compare_sources-compare_sources-requires
compare_sources-compare_sources-requires t c = (omega (arith, nodes_in-others c.args.left.now c.in-len1-up.len_at_least), tt)

pub compare_sources-returns-in-len1-up-right : goal.compare_sources-returns-in-len1-up-right
compare_sources-returns-in-len1-up-right t c = none_is_less c.args.left.now c.args.right.now c.in-empty.len_below c.in-len1-up-right.len_at_least
