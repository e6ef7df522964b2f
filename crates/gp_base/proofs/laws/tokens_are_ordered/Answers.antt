use Rattle.gp_base.specs.TokenOrder.{token_cmp_total, token_cmp-exact}
use Rattle.gp_base.proofs.laws.tokens_are_ordered.Goals as goal

pub returns : goal.returns
returns c = record { total = token_cmp_total; exact = token_cmp-exact }
