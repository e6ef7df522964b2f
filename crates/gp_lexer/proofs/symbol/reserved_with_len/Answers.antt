use Rattle.std.proofs.Common.{rules}
use Rattle.gp_lexer.specs.Lexemes.{symbol_text}
use Rattle.gp_lexer.proofs.symbol.reserved_with_len.Goals as goal

pub returns-in-5 : goal.returns-in-5
unfolding symbol_text
returns-in-5 c = search rules
