use Rattle.std.proofs.Common.{List, ℕ, ◌++◌, ap, refl, subst, ◌∙◌}
use Rattle.gprom_cli.specs.declared.about.TheConstants.{HELP}
use Rattle.gprom_cli.specs.declared.status.Status.TheVariants as exit
use Rattle.gprom_cli.specs.Call.{WritesOutput, help_text}
use Rattle.gprom_cli.proofs.WritesLemmas.{nothing-written}
use Rattle.gprom_cli.proofs.about.write_help.Goals as goal

pub returns-in-Ok : goal.returns-in-Ok
returns-in-Ok g c =
    subst
    (λ (text : List ℕ). WritesOutput text exit.Done (g.K.Sink.state c.args.out.now) (g.K.Sink.state c.write_output.new.out) c.write_output.result)
    (c.as_bytes.ensures.value ∙ c.in-Ok.ensures ∙ ap (λ (line : List ℕ). line ++ HELP.now) c.usage.ensures) c.write_output.ensures

pub returns-in-Err : goal.returns-in-Err
returns-in-Err g c =
    let sink = g.K.Sink.state c.args.out.now in
    nothing-written help_text exit.Done sink sink exit.OutOfMemory refl refl
