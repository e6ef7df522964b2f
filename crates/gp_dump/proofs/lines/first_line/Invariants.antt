use Rattle.std.proofs.Common.{◌≡◌, ◌≤◌, ◌-◌, length, take, drop}
use Rattle.gp_dump.specs.Lines.{lines_of}
use Rattle.gp_dump.proofs.LinesLemmas.{ontos}
use Rattle.gp_dump.proofs.lines.first_line.Given as goal

abbrev pub invariant-loop-at : goal.invariant-loop-at
invariant-loop-at l = (lines_of l.bytes ≡ ontos (take l.at l.bytes) (lines_of (drop l.at l.bytes))) × (l.at ≤ length l.bytes)

abbrev pub decreases-loop-at : goal.decreases-loop-at
decreases-loop-at l = length l.bytes - l.at
