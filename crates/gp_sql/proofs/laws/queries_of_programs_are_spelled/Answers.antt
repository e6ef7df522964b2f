use Rattle.gp_sql.proofs.SpelledQueries.{program-spelled}
use Rattle.gp_sql.proofs.laws.queries_of_programs_are_spelled.Goals as goal

pub returns : goal.returns
returns c = program-spelled
