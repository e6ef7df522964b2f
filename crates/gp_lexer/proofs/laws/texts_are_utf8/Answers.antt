use Rattle.gp_lexer.proofs.Utf8Lemmas.{texts-utf8}
use Rattle.gp_lexer.proofs.laws.texts_are_utf8.Goals as goal

pub returns : goal.returns
returns c = texts-utf8
