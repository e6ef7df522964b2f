-- Part of the statement: what a log line can say.
use Rattle.std.specs.Prelude.{Bool, false, ◌||◌, not}
use Rattle.gp_grammar.specs.Canonical.{command_text}
use Rattle.gp_grammar.specs.CommandGrammar.{IsCommand}
use Rattle.gp_grammar.specs.Limits.{command_shape}
use Rattle.gp_grammar.specs.LineReading.{ReadsText}
use Rattle.gp_grammar.specs.Syntax as y
use Rattle.gp_log.specs.Discipline.{Said, Does, Loses}

-- a command that its canonical text is read as, or that a COMMIT was lost
abbrev pub IsSaid : Said → Type 0
IsSaid (Does command) = ReadsText IsCommand command_shape (command_text command) command
IsSaid Loses = Unit {0}

-- BEGIN READ COMMITTED, which a log of the first format cannot say
abbrev pub begins_read_committed : Said → Bool
begins_read_committed (Does (y.begin read_committed)) = read_committed
begins_read_committed _ = false

-- a format has what a log line says
abbrev pub is_said_in : Bool → Said → Bool
is_said_in second said = second || not (begins_read_committed said)
