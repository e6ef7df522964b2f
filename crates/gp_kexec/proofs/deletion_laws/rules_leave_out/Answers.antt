use Rattle.gp_kexec.proofs.CountLemmas.{monomial_counted, token_counted}
use Rattle.gp_kexec.proofs.deletion_laws.rules_leave_out.Goals as goal

pub returns : goal.returns
returns c = record { tokens = token_counted; monomials = monomial_counted }
