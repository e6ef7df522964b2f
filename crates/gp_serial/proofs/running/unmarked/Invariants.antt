use Rattle.std.proofs.Common.{◌≡◌, take}
use Rattle.gp_serial.proofs.running.unmarked.Given as goal

-- the first cells are copied
abbrev pub invariant-loop-i : goal.invariant-loop-i
invariant-loop-i l = l.copy ≡ take l.i l.row
