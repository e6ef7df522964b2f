use Rattle.std.proofs.Common.{List, ℕ, refl, subst, ◌∙◌}
use Rattle.gprom_cli.specs.declared.status.Status.TheVariants as exit
use Rattle.gprom_cli.specs.Call.{WritesOutput}
use Rattle.gprom_cli.specs.Summary.{summary_text}
use Rattle.gprom_cli.specs.Summaries.{summary_of}
use Rattle.gprom_cli.proofs.OutcomeLemmas.{is-summary, one-summary}
use Rattle.gprom_cli.proofs.WritesLemmas.{nothing-written}
use Rattle.gprom_cli.proofs.summary.generate.Goals as goal

pub returns-in-Ok : goal.returns-in-Ok
returns-in-Ok g c = (
  summary_of c.args.rounds,
  is-summary c.args.rounds,
  one-summary c.args.rounds,
  subst
      (λ (text : List ℕ). WritesOutput text exit.Done (g.K.Sink.state c.args.out.now) (g.K.Sink.state c.write_output.new.out) c.write_output.result)
      (c.deref.ensures.value ∙ c.in-Ok.ensures) c.write_output.ensures,
)

pub returns-in-Err : goal.returns-in-Err
returns-in-Err g c =
    let sink = g.K.Sink.state c.args.out.now in
    (summary_of c.args.rounds, is-summary c.args.rounds, one-summary c.args.rounds, nothing-written (summary_text (summary_of c.args.rounds)) exit.Done sink sink exit.OutOfMemory refl refl)
