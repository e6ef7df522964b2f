use Rattle.gp_grammar.proofs.ReadOnce.{questions-once, scripts-once}
use Rattle.gp_grammar.proofs.laws.lines_are_read_once.Goals as goal

pub returns-clause-scripts : goal.returns-clause-scripts
returns-clause-scripts c = scripts-once

pub returns-clause-questions : goal.returns-clause-questions
returns-clause-questions c = questions-once
