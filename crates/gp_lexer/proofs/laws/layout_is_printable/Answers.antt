use Rattle.gp_lexer.proofs.PrintableLemmas.{laid_out-plain, laid_out-utf8}
use Rattle.gp_lexer.proofs.laws.layout_is_printable.Goals as goal

pub returns-clause-one_line : goal.returns-clause-one_line
returns-clause-one_line c = laid_out-plain

pub returns-clause-utf8 : goal.returns-clause-utf8
returns-clause-utf8 c = laid_out-utf8
