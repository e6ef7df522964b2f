use Rattle.std.proofs.Common.{◌≡◌, ℕ, List, Err, refl, subst}
use Rattle.gp_io.specs.Sink.{after_write}
use Rattle.gp_io.specs.SinkSteps.{WriteStops}
use Rattle.gprom_cli.specs.declared.status.Status.TheVariants as exit
use Rattle.gprom_cli.proofs.WritesLemmas.{written}
use Rattle.gprom_cli.proofs.ask.write_answered.Goals as goal

pub returns-in-Ok : goal.returns-in-Ok
returns-in-Ok g c =
    let old = g.K.Sink.state c.args.out.now in
    let new = g.K.Sink.state c.write_all.new.self in
    record { refused = refl; written = subst (λ (text : List ℕ). new ≡ after_write text old) c.deref.ensures.value c.in-Ok.ensures.written }

pub returns-in-Err : goal.returns-in-Err
returns-in-Err g c =
    let old = g.K.Sink.state c.args.out.now in
    let new = g.K.Sink.state c.write_all.new.self in
    record {
      refused = tt;
      written = written {T = Unit {0}} (Err c.in-Err.stop) c.args.answer.now.text.items exit.Done old new tt
          (subst (λ (text : List ℕ). WriteStops text old new c.in-Err.stop) c.deref.ensures.value c.in-Err.ensures.stopped);
    }
