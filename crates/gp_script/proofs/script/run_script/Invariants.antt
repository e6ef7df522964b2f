use Rattle.std.proofs.Common.{length}
use Rattle.gp_script.proofs.Progress.{IsProgress}
use Rattle.gp_script.proofs.script.run_script.Given as goal

abbrev pub invariant-loop-line : goal.invariant-loop-line
invariant-loop-line l = IsProgress l.script l.engine l.rest l.text.items l.refused

abbrev pub decreases-loop-line : goal.decreases-loop-line
decreases-loop-line l = length l.rest
