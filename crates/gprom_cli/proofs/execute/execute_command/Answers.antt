use Rattle.std.proofs.Common.{◌≡◌, ℕ, List, Option, None, Some, ◌++◌, subst, ap, sym, ◌∙◌}
use Rattle.std.specs.Option.{option_map}
use Rattle.gprom_cli.specs.declared.status.Status.TheVariants as exit
use Rattle.gprom_cli.specs.declared.summary.Summary.{Summary}
use Rattle.gprom_cli.specs.Args as spec
use Rattle.gprom_cli.specs.Call as call
use Rattle.gprom_cli.specs.Call.{WritesOutput, help_text, rounds_line, usage_text, version_text}
use Rattle.gprom_cli.specs.Steps.{Ends}
use Rattle.gprom_cli.specs.Summary.{summary_text}
use Rattle.gprom_cli.specs.Views.{command_view}
use Rattle.gprom_cli.proofs.LinesLemmas.{summary-lines}
use Rattle.gprom_cli.proofs.StepsLemmas.{quiet-end}
use Rattle.gprom_cli.proofs.execute.execute_command.Goals as goal

pub returns-in-Some-Run : goal.returns-in-Some-Run
returns-in-Some-Run g c =
    let is = ap (option_map command_view) (sym (c.in-Some-Run.is ∙ ap Some c.in-Some-Run.field-0-is)) in
    subst (λ (command : Option spec.Command). Ends command (g.H.Shelf.events c.args.shelf.now) (g.H.Shelf.events c.run.new.shelf) (g.K.Sink.state c.args.out.now) (g.K.Sink.state c.run.new.out) c.run.result)
    is c.run.ensures

pub returns-in-Some-Ask : goal.returns-in-Some-Ask
returns-in-Some-Ask g c =
    let is = ap (option_map command_view) (sym (c.in-Some-Ask.is ∙ ap Some c.in-Some-Ask.field-0-is)) in
    subst (λ (command : Option spec.Command). Ends command (g.H.Shelf.events c.args.shelf.now) (g.H.Shelf.events c.ask.new.shelf) (g.K.Sink.state c.args.out.now) (g.K.Sink.state c.ask.new.out) c.ask.result)
    is c.ask.ensures

pub returns-in-Some-Load : goal.returns-in-Some-Load
returns-in-Some-Load g c =
    let is = ap (option_map command_view) (sym (c.in-Some-Load.is ∙ ap Some c.in-Some-Load.field-0-is)) in
    subst (λ (command : Option spec.Command). Ends command (g.H.Shelf.events c.args.shelf.now) (g.H.Shelf.events c.load.new.shelf) (g.K.Sink.state c.args.out.now) (g.K.Sink.state c.load.new.out) c.load.result)
    is c.load.ensures

pub returns-in-None : goal.returns-in-None
returns-in-None g c =
    let events = g.H.Shelf.events c.args.shelf.now in
    let sink = g.K.Sink.state c.args.out.now in
    let sink_after = g.K.Sink.state c.write_usage.new.out in
    subst (λ (command : Option spec.Command). Ends command events events sink sink_after c.write_usage.result) (ap (option_map command_view) (sym c.in-None.is))
    (quiet-end None events sink sink_after c.write_usage.result usage_text exit.Usage call.usage c.write_usage.ensures)

pub returns-in-Some-Help : goal.returns-in-Some-Help
returns-in-Some-Help g c =
    let events = g.H.Shelf.events c.args.shelf.now in
    let sink = g.K.Sink.state c.args.out.now in
    let sink_after = g.K.Sink.state c.write_help.new.out in
    let is = ap (option_map command_view) (sym (c.in-Some-Help.is ∙ ap Some c.in-Some-Help.field-0-is)) in
    subst (λ (command : Option spec.Command). Ends command events events sink sink_after c.write_help.result) is
    (quiet-end (Some spec.Help) events sink sink_after c.write_help.result help_text exit.Done call.helped c.write_help.ensures)

pub returns-in-Some-Version : goal.returns-in-Some-Version
returns-in-Some-Version g c =
    let events = g.H.Shelf.events c.args.shelf.now in
    let sink = g.K.Sink.state c.args.out.now in
    let sink_after = g.K.Sink.state c.write_version.new.out in
    let is = ap (option_map command_view) (sym (c.in-Some-Version.is ∙ ap Some c.in-Some-Version.field-0-is)) in
    subst (λ (command : Option spec.Command). Ends command events events sink sink_after c.write_version.result) is
    (quiet-end (Some spec.Version) events sink sink_after c.write_version.result version_text exit.Done call.versioned c.write_version.ensures)

pub returns-in-Some-Generate : goal.returns-in-Some-Generate
returns-in-Some-Generate g c =
    let events = g.H.Shelf.events c.args.shelf.now in
    let sink = g.K.Sink.state c.args.out.now in
    let sink_after = g.K.Sink.state c.generate.new.out in
    let rounds = c.in-Some-Generate.rounds in
    let is = ap (option_map command_view) (sym (c.in-Some-Generate.is ∙ ap Some c.in-Some-Generate.field-0-is)) in
    let made = c.generate.ensures in
    let lines = summary-lines made.0 in
    let text : summary_text made.0 ≡ rounds_line rounds ++ lines.0 = lines.2 ∙ ap (λ (own : Summary). rounds_line own.rounds ++ lines.0) made.1.is in
    subst (λ (command : Option spec.Command). Ends command events events sink sink_after c.generate.result) is
    (quiet-end (Some (spec.Generate rounds)) events sink sink_after c.generate.result (rounds_line rounds ++ lines.0) exit.Done (call.summarized rounds lines.0 lines.1)
    (subst (λ (t : List ℕ). WritesOutput t exit.Done sink sink_after c.generate.result) text made.3))
