use Rattle.std.proofs.Common.{◌≡◌, true}
use Rattle.gp_serial.specs.Comparing.{ends_same, passes_first}
use Rattle.gp_serial.proofs.serializing.ends_same.Given as goal

-- the first tables have the same rows
abbrev pub invariant-loop-place : goal.invariant-loop-place
invariant-loop-place l = passes_first (ends_same l.version l.last l.versions l.made) l.place ≡ true
