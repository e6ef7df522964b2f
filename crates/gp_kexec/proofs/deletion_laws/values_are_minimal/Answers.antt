use Rattle.gp_kexec.proofs.WitnessValueLemmas.{witness_value}
use Rattle.gp_kexec.proofs.deletion_laws.values_are_minimal.Goals as goal

pub returns : goal.returns
returns c = λ pairs are row. witness_value row pairs are
