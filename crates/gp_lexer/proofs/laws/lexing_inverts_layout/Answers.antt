use Rattle.gp_lexer.proofs.LayoutLemmas.{lexemes_of-laid_out}
use Rattle.gp_lexer.proofs.laws.lexing_inverts_layout.Goals as goal

pub returns : goal.returns
returns c = lexemes_of-laid_out
