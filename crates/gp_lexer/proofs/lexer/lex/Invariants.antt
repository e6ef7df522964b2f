use Rattle.std.proofs.Common.{length}
use Rattle.gp_lexer.proofs.LineLemmas.{Left}
use Rattle.gp_lexer.proofs.lexer.lex.Given as goal

abbrev pub invariant-loop-rest : goal.invariant-loop-rest
invariant-loop-rest l = Left l.lexemes l.columns l.line l.rest

abbrev pub decreases-loop-rest : goal.decreases-loop-rest
decreases-loop-rest l = length l.rest
