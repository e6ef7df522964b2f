use Rattle.gp_typed.proofs.CheckedTypes.{checked_is_typed, checked_query_is_typed}
use Rattle.gp_typed.proofs.MoreTables.{typed_more}
use Rattle.gp_typed.proofs.laws.checked_statements_are_typed.Goals as goal

pub returns-clause-statements : goal.returns-clause-statements
returns-clause-statements c = checked_is_typed

pub returns-clause-queries : goal.returns-clause-queries
returns-clause-queries c = checked_query_is_typed

pub returns-clause-more : goal.returns-clause-more
returns-clause-more c = typed_more
