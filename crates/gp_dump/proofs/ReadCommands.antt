-- A command that is read again from its text is valid, within the limits on its shape, and said by a log line with this text.
use Rattle.gp_dump.proofs.Prelude.{◌≡◌, true, None, Ok, command_text, command_shape, passed_limit, command_of, Command, is_valid, command-read}
use Rattle.gp_lexer.specs.Lexing as lex
use Rattle.gp_grammar.specs.Capping.{capped_command}
use Rattle.gp_grammar.specs.CommandGrammar.{IsCommand}
use Rattle.gp_grammar.specs.CommandParsing.{command as parser}
use Rattle.gp_grammar.proofs.LineLaws.{texts-read}
use Rattle.gp_grammar.proofs.ParserLaws.{lawful-command}
use Rattle.gp_grammar.proofs.ShapeLemmas.{commands-fair}

pub read_valid : (command : Command) → command_of (command_text command) ≡ Ok command → is_valid command ≡ true
read_valid command e = command-read (command_text command) command e

pub read_within : (command : Command) → command_of (command_text command) ≡ Ok command → passed_limit (command_shape command) ≡ None
read_within command e = ((texts-read parser IsCommand capped_command command_shape lawful-command commands-fair (command_text command) command).0 e).within
