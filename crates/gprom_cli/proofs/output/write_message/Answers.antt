use Rattle.std.proofs.Common.{List, ℕ, refl, subst, ◌∙◌}
use Rattle.gprom_cli.specs.declared.status.Status.TheVariants as exit
use Rattle.gprom_cli.specs.Call.{WritesOutput, message}
use Rattle.gprom_cli.proofs.WritesLemmas.{nothing-written}
use Rattle.gprom_cli.proofs.output.write_message.Goals as goal

pub returns-in-Ok : goal.returns-in-Ok
returns-in-Ok g c =
    subst
    (λ (text : List ℕ). WritesOutput text c.args.status (g.K.Sink.state c.args.out.now) (g.K.Sink.state c.write_output.new.out) c.write_output.result)
    (c.as_bytes.ensures.value ∙ c.in-Ok.ensures) c.write_output.ensures

pub returns-in-Err : goal.returns-in-Err
returns-in-Err g c =
    let sink = g.K.Sink.state c.args.out.now in
    nothing-written (message c.args.words.now c.args.name.now) c.args.status sink sink exit.OutOfMemory refl refl
