use Rattle.gp_lexer.proofs.ProperLemmas.{lexemes-proper}
use Rattle.gp_lexer.proofs.laws.lexemes_are_proper.Goals as goal

pub returns : goal.returns
returns c = lexemes-proper
