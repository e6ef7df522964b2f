use Rattle.gp_kexec.proofs.CountLemmas.{counting_carries}
use Rattle.gp_kexec.proofs.deletion_laws.counting_keeps_products.Goals as goal

pub returns : goal.returns
returns c = counting_carries
