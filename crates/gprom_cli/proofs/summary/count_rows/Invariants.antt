use Rattle.std.proofs.Common.{length}
use Rattle.gp_base.specs.declared.limit.TheConstants.{MAX_ANSWER_ROWS}
use Rattle.gp_syntax.specs.Lines.{script_lines}
use Rattle.gp_dump.specs.Views.{dump_view}
use Rattle.gp_ask.specs.Computed.{computed_answer}
use Rattle.gprom_cli.specs.Summaries.{line_rows}
use Rattle.gprom_cli.proofs.CountingLemmas.{IsCounted}
use Rattle.gprom_cli.proofs.summary.count_rows.Given as goal

abbrev pub invariant-loop-line : goal.invariant-loop-line
invariant-loop-line l = IsCounted (line_rows (computed_answer (dump_view l.dump))) MAX_ANSWER_ROWS (script_lines l.questions) l.rest l.rows

abbrev pub decreases-loop-line : goal.decreases-loop-line
decreases-loop-line l = length l.rest
