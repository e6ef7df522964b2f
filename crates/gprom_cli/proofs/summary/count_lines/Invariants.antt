use Rattle.std.proofs.Common.{length}
use Rattle.gp_syntax.specs.Lines.{script_lines}
use Rattle.gprom_cli.proofs.CountingLemmas.{IsCounted, one}
use Rattle.gprom_cli.proofs.summary.count_lines.Given as goal

abbrev pub invariant-loop-line : goal.invariant-loop-line
invariant-loop-line l = IsCounted one 1 (script_lines l.text) l.rest l.count

abbrev pub decreases-loop-line : goal.decreases-loop-line
decreases-loop-line l = length l.rest
