use Rattle.gp_sql.proofs.TypedPrograms.{program-typed}
use Rattle.gp_sql.proofs.laws.queries_of_programs_are_typed.Goals as goal

pub returns : goal.returns
returns c = program-typed
