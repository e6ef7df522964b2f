use Rattle.gp_check.proofs.ValidLemmas.{tables-added}
use Rattle.gp_check.proofs.laws.created_tables_are_valid.Goals as goal

pub returns-clause-added : goal.returns-clause-added
returns-clause-added c = tables-added
