use Rattle.std.proofs.Common.{◌≡◌, length}
use Rattle.gp_syntax.specs.Lines.{is_blank_or_comment}
use Rattle.gp_syntax.proofs.line.is_blank_or_comment.Given as goal

-- the answer for the rest is the answer for the line
abbrev pub invariant-loop-rest : goal.invariant-loop-rest
invariant-loop-rest l = is_blank_or_comment l.rest ≡ is_blank_or_comment l.line

abbrev pub decreases-loop-rest : goal.decreases-loop-rest
decreases-loop-rest l = length l.rest
