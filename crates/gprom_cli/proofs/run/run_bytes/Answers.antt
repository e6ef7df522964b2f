use Rattle.std.proofs.Common.{refl}
use Rattle.gprom_cli.specs.declared.status.Status.TheVariants as exit
use Rattle.gprom_cli.proofs.OutcomeLemmas.{run-memory}
use Rattle.gprom_cli.proofs.run.run_bytes.Goals as goal

pub returns-in-Err : goal.returns-in-Err
returns-in-Err g c = λ name before there.
    let events = g.H.Shelf.events c.args.shelf.now in
    let sink = g.K.Sink.state c.args.out.now in
    run-memory name c.args.dump.now c.args.script.now c.requires before events events there sink sink exit.OutOfMemory refl refl refl
