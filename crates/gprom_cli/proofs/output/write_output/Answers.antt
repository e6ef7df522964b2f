use Rattle.std.proofs.Common.{Ok, Err, subst, sym}
use Rattle.gprom_cli.specs.declared.status.Status.{Status}
use Rattle.gprom_cli.specs.Call.{WritesOutput}
use Rattle.gprom_cli.proofs.WritesLemmas.{written}
use Rattle.gprom_cli.proofs.output.write_output.Goals as goal

pub returns-in-Ok : goal.returns-in-Ok
returns-in-Ok g c =
    written {T = Unit {0}} (Ok tt) c.args.text.now c.args.status (g.K.Sink.state c.args.out.now) (g.K.Sink.state c.write_all.new.self) c.in-Ok.ensures.written tt

pub returns-in-Err : goal.returns-in-Err
returns-in-Err g c =
    let old = g.K.Sink.state c.args.out.now in
    let new = g.K.Sink.state c.write_all.new.self in
    subst (λ (s : Status). WritesOutput c.args.text.now c.args.status old new s) (sym c.stop_status.ensures)
    (written {T = Unit {0}} (Err c.in-Err.stop) c.args.text.now c.args.status old new tt c.in-Err.ensures.stopped)
