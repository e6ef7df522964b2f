use Rattle.gp_grammar.proofs.Prelude.{command, IsCommand, capped_command, command_shape}
use Rattle.gp_grammar.proofs.LineLaws as line
use Rattle.gp_grammar.proofs.ParserLaws.{lawful-command}
use Rattle.gp_grammar.proofs.ShapeLemmas.{commands-fair}
use Rattle.gp_grammar.proofs.laws.command_texts_are_read.Goals as goal

pub returns : goal.returns
returns c = record { reads = line.texts-read command IsCommand capped_command command_shape lawful-command commands-fair; refuses = line.texts-refused command IsCommand capped_command command_shape lawful-command commands-fair }
