use Rattle.gp_machine.proofs.CommitterLemmas.{all_once, rows_committed}
use Rattle.gp_machine.proofs.laws.identities_begin_with_their_committers.Goals as goal

pub returns-clause-rows : goal.returns-clause-rows
returns-clause-rows g c kind limits lines version table l = rows_committed kind limits lines version table l

pub returns-clause-once : goal.returns-clause-once
returns-clause-once g c kind limits lines u l = all_once kind limits lines u l
