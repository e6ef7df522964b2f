use Rattle.std.proofs.Common.{◌≡◌, ◌++◌, replicate}
use Rattle.gp_kexec.proofs.repeating.repeat.Given as goal

abbrev pub invariant-loop-left : goal.invariant-loop-left
invariant-loop-left l = l.rows.items ++ replicate l.left l.row ≡ l.initial.rows.items ++ replicate l.number l.row

abbrev pub decreases-loop-left : goal.decreases-loop-left
decreases-loop-left l = l.left
