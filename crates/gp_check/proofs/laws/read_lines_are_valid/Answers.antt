use Rattle.gp_check.proofs.ValidLemmas.{line-derived, line-read}
use Rattle.gp_check.proofs.laws.read_lines_are_valid.Goals as goal

pub returns-clause-derived : goal.returns-clause-derived
returns-clause-derived c = line-derived

pub returns-clause-read : goal.returns-clause-read
returns-clause-read c = line-read
