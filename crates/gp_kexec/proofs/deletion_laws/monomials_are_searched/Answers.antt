use Rattle.gp_kexec.proofs.DeletionLemmas.{monomials_find}
use Rattle.gp_kexec.proofs.deletion_laws.monomials_are_searched.Goals as goal

pub returns : goal.returns
returns c = monomials_find
