use Rattle.std.proofs.Common.{Option, map, subst}
use Rattle.std.specs.Prelude.{string_bytes}
use Rattle.gprom_cli.specs.Args as spec
use Rattle.gprom_cli.specs.Steps.{Ends}
use Rattle.gprom_cli.proofs.RoundsLemmas.{few-rounds}
use Rattle.gprom_cli.proofs.StepsLemmas.{out-of-memory}
use Rattle.gprom_cli.proofs.execute.execute.Goals as goal

pub returns-in-Ok : goal.returns-in-Ok
returns-in-Ok g c =
    subst
    (λ (command : Option spec.Command). Ends command (g.H.Shelf.events c.args.shelf.now) (g.H.Shelf.events c.execute_command.new.shelf) (g.K.Sink.state c.args.out.now) (g.K.Sink.state c.execute_command.new.out) c.execute_command.result)
    c.in-Ok.ensures c.execute_command.ensures

pub returns-in-Err : goal.returns-in-Err
returns-in-Err g c = out-of-memory (spec.command_of (map string_bytes c.args.args.now)) (g.H.Shelf.events c.args.shelf.now) (g.K.Sink.state c.args.out.now)

pub execute_command-requires : goal.execute_command-requires
execute_command-requires g c = few-rounds c.in-Ok.command (map string_bytes c.args.args.now) c.in-Ok.ensures
