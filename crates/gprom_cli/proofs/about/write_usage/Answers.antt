use Rattle.std.proofs.Common.{List, ℕ, subst, ◌∙◌}
use Rattle.gprom_cli.specs.declared.status.Status.TheVariants as exit
use Rattle.gprom_cli.specs.Call.{WritesOutput}
use Rattle.gprom_cli.proofs.about.write_usage.Goals as goal

pub returns : goal.returns
returns g c =
    subst
    (λ (text : List ℕ). WritesOutput text exit.Usage (g.K.Sink.state c.args.out.now) (g.K.Sink.state c.write_output.new.out) c.write_output.result)
    (c.as_bytes.ensures.value ∙ c.usage.ensures) c.write_output.ensures
