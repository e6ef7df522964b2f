use Rattle.std.proofs.Common.{length}
use Rattle.gp_lexer.proofs.symbol.+symbol_among.Given as goal

abbrev pub decreases-symbol_among : goal.decreases-symbol_among
decreases-symbol_among l = length l.symbols.now
