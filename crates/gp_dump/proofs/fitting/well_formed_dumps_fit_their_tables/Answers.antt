use Rattle.gp_dump.proofs.FittingTables.{statements_of_dumps, spans_of_dumps}
use Rattle.gp_dump.proofs.fitting.well_formed_dumps_fit_their_tables.Goals as goal

pub returns-clause-statements : goal.returns-clause-statements
returns-clause-statements c = statements_of_dumps

pub returns-clause-spans : goal.returns-clause-spans
returns-clause-spans c = spans_of_dumps
