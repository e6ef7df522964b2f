use Rattle.gp_machine.proofs.ReplaceLemmas.{published_cleared, published_next, published_replaces, unchanged_adds_none, won_adds_none}
use Rattle.gp_machine.proofs.laws.publishing_replaces_the_written_rows.Goals as goal

pub returns-clause-replaces : goal.returns-clause-replaces
returns-clause-replaces g c among base view later table kept none = published_replaces among base view later table kept none

pub returns-clause-unmarked : goal.returns-clause-unmarked
returns-clause-unmarked g c among base view later table kept none marks = published_cleared among base view later table kept none marks

pub returns-clause-commit : goal.returns-clause-commit
returns-clause-commit g c t k base view later written is table none = published_next t k base view later written is table none

pub returns-clause-unchanged : goal.returns-clause-unchanged
returns-clause-unchanged g c among base later same = unchanged_adds_none among base later same

pub returns-clause-won : goal.returns-clause-won
returns-clause-won g c kind limits state reached active won version l bases table = won_adds_none kind limits state reached active won version l bases table
