use Rattle.gp_kexec.proofs.CountLemmas.{answer_kept, program_counted}
use Rattle.gp_kexec.proofs.deletion_laws.answers_remain.Goals as goal

pub returns : goal.returns
returns c = record { programs = program_counted; answers = answer_kept }
