use Rattle.std.proofs.Common.{sym}
use Rattle.gp_kexec.proofs.DeletionLemmas.{answer_reduced, step_reduced}
use Rattle.gp_kexec.proofs.deletion_laws.deletions_commute.Goals as goal

pub returns : goal.returns
returns g c = record {
  answers = λ kind has finds select db. sym (answer_reduced kind has finds 1 select db);
  effects = λ kind has finds t k statement db table. step_reduced kind has finds t k statement db table;
}
