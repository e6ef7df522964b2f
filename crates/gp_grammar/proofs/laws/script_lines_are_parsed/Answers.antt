use Rattle.gp_grammar.proofs.Prelude.{script_line, IsScriptLine, capped_line, line_shape}
use Rattle.gp_grammar.proofs.LineLaws as line
use Rattle.gp_grammar.proofs.ParserLaws.{lawful-line}
use Rattle.gp_grammar.proofs.ShapeLemmas.{lines-fair}
use Rattle.gp_grammar.proofs.laws.script_lines_are_parsed.Goals as goal

pub returns : goal.returns
returns c = record { complete = lawful-line.parses; place = lawful-line.stops; unique = line.unambiguous script_line IsScriptLine capped_line line_shape lawful-line lines-fair; fair = lines-fair }
