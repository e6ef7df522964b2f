use Rattle.gp_versions.proofs.HeldLemmas.{held-differ}
use Rattle.gp_versions.proofs.laws.a_version_has_one_row_of_an_identity.Goals as goal

pub returns : goal.returns
returns c = record { different = held-differ }
