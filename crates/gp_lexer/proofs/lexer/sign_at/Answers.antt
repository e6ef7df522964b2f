use Rattle.std.proofs.Common.{arith}
use Rattle.std.proofs.lemmas.Grind.{common_steps}
use Rattle.gp_lexer.specs.Lexing.{sign_at}
use Rattle.gp_lexer.proofs.lexer.sign_at.Goals as goal

pub returns : goal.returns
unfolding sign_at
returns c = grind (arith, common_steps)
