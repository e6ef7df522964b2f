use Rattle.gp_base.proofs.MonomialLemmas.{IsMonomial-times}
use Rattle.gp_base.proofs.ProductLaws.{times-counts}
use Rattle.gp_base.proofs.laws.product_adds_counts.Goals as goal

pub returns : goal.returns
returns c = record { valid = IsMonomial-times; counts = times-counts }
