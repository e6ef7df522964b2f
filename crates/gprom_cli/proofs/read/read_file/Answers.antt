use Rattle.std.proofs.Common.{arith}
use Rattle.gprom_cli.specs.Steps.{is_long}
use Rattle.gprom_cli.proofs.read.read_file.Goals as goal

pub returns-then-len-most-clause-stopped : goal.returns-then-len-most-clause-stopped
returns-then-len-most-clause-stopped g c = is_long c.in-Ok.bytes.items c.in-Ok.ensures.read (omega (arith, c.in-Ok.bytes.ok.0)) c.write_message.ensures

pub returns-in-Err-clause-stopped : goal.returns-in-Err-clause-stopped
returns-in-Err-clause-stopped g c =
    c.write_stop.ensures c.args.most (g.H.Shelf.events c.args.shelf.now) (g.H.Shelf.events c.read.new.self) c.in-Err.ensures.stopped
