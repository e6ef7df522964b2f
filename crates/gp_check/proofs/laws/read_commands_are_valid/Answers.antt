use Rattle.gp_check.proofs.ValidLemmas.{command-derived, command-read}
use Rattle.gp_check.proofs.laws.read_commands_are_valid.Goals as goal

pub returns-clause-derived : goal.returns-clause-derived
returns-clause-derived c = command-derived

pub returns-clause-read : goal.returns-clause-read
returns-clause-read c = command-read
