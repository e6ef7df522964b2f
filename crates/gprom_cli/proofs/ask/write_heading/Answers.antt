use Rattle.std.proofs.Common.{◌≡◌, ℕ, [], List, inl, refl, subst, ◌∙◌}
use Rattle.gp_ask.specs.Formats.{heading_in}
use Rattle.gp_dump.specs.Views.{dump_view}
use Rattle.gprom_cli.specs.Call.{some_written}
use Rattle.gprom_cli.specs.Steps.{WritesText}
use Rattle.gprom_cli.proofs.WritesLemmas.{after-nothing}
use Rattle.gprom_cli.proofs.ask.write_heading.Goals as goal

pub returns-in-Ok : goal.returns-in-Ok
returns-in-Ok g c =
    subst (λ (text : List ℕ). WritesText text (g.K.Sink.state c.args.out.now) (g.K.Sink.state c.write_text.new.out) c.write_text.result)
    (c.deref.ensures.value ∙ c.in-Ok.ensures) c.write_text.ensures

pub returns-in-Err : goal.returns-in-Err
returns-in-Err g c = some_written [] (heading_in c.args.format (dump_view c.args.dump.now)) refl (inl refl) (after-nothing (g.K.Sink.state c.args.out.now)) refl
