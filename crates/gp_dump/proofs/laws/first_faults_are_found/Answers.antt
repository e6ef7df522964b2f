use Rattle.gp_dump.proofs.FaultLemmas.{fault-found, fault-is}
use Rattle.gp_dump.proofs.laws.first_faults_are_found.Goals as goal

pub returns-clause-found : goal.returns-clause-found
returns-clause-found c = fault-found

pub returns-clause-only : goal.returns-clause-only
returns-clause-only c = fault-is
