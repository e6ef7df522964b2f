use Rattle.std.proofs.Common.{length}
use Rattle.gp_log.specs.LogFacts.{tables_in}
use Rattle.gp_ask.specs.Computed.{computed_in}
use Rattle.gp_ask.specs.Keeping.{AreKept}
use Rattle.gp_dump.specs.Views.{dump_view}
use Rattle.gprom_cli.proofs.AnswersLemmas.{IsProgress}
use Rattle.gprom_cli.proofs.ask.write_lines.Given as goal

abbrev pub invariant-loop-line : goal.invariant-loop-line
invariant-loop-line g l =
    record {
      progress : IsProgress l.format (tables_in (dump_view l.dump).entries) (computed_in l.format (dump_view l.dump)) l.questions l.rest l.refused (g.K.Sink.state l.initial.out) (g.K.Sink.state l.out);
      kept : AreKept l.dump l.kept;
    }

abbrev pub decreases-loop-line : goal.decreases-loop-line
decreases-loop-line g l = length l.rest
