use Rattle.gp_algebra.proofs.SimpleLemmas.{fitting_query-simple, fitting_insert-simple}
use Rattle.gp_algebra.proofs.laws.fitting_queries_are_simple.Goals as goal

pub returns-clause-queries : goal.returns-clause-queries
returns-clause-queries c = fitting_query-simple

pub returns-clause-inserts : goal.returns-clause-inserts
returns-clause-inserts c = fitting_insert-simple

pub returns-clause-reads : goal.returns-clause-reads
returns-clause-reads c = fitting_query-simple
