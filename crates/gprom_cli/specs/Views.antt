-- Of the contract of `parse`: the command of the code as that of the statement.
use Rattle.std.specs.Prelude.{◌≤◌}
use Rattle.gprom_cli.specs.declared.args.Command as code
use Rattle.gprom_cli.specs.declared.args.Command.TheVariants as command
use Rattle.gprom_cli.specs.declared.generated.TheConstants.{MAX_ROUNDS}
use Rattle.gprom_cli.specs.Args.{Command, Run, Ask, Generate, Load, Help, Version}

abbrev pub command_view : code.Command → Command
command_view (command.Run script dump) = Run script.now dump.now
command_view (command.Ask format dump questions) = Ask format dump.now questions.now
command_view (command.Generate rounds) = Generate rounds
command_view (command.Load csv table script) = Load csv.now table script.now
command_view command.Help = Help
command_view command.Version = Version

-- the rounds of the command are within their limit
abbrev pub HasFewRounds : code.Command → Type 0
HasFewRounds (command.Run script dump) = Unit {0}
HasFewRounds (command.Ask format dump questions) = Unit {0}
HasFewRounds (command.Generate rounds) = rounds ≤ MAX_ROUNDS
HasFewRounds (command.Load csv table script) = Unit {0}
HasFewRounds command.Help = Unit {0}
HasFewRounds command.Version = Unit {0}
