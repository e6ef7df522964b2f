use Rattle.gp_grammar.proofs.Prelude.{script_line, IsScriptLine, capped_line, line_shape}
use Rattle.gp_grammar.proofs.LineLaws as line
use Rattle.gp_grammar.proofs.ParserLaws.{lawful-line}
use Rattle.gp_grammar.proofs.ShapeLemmas.{lines-fair}
use Rattle.gp_grammar.proofs.laws.script_lines_are_read.Goals as goal

pub returns : goal.returns
returns c = record { reads = line.lines-read script_line IsScriptLine capped_line line_shape lawful-line lines-fair; refuses = line.lines-refused script_line IsScriptLine capped_line line_shape lawful-line lines-fair }
