use Rattle.gp_grammar.proofs.Prelude.{command, IsCommand, capped_command, command_shape}
use Rattle.gp_grammar.proofs.LineLaws as line
use Rattle.gp_grammar.proofs.ParserLaws.{lawful-command}
use Rattle.gp_grammar.proofs.ShapeLemmas.{commands-fair}
use Rattle.gp_grammar.proofs.laws.commands_are_parsed.Goals as goal

pub returns : goal.returns
returns c = record { complete = lawful-command.parses; place = lawful-command.stops; unique = line.unambiguous command IsCommand capped_command command_shape lawful-command commands-fair; fair = commands-fair }
