use Rattle.std.proofs.Common.{◌≡◌, true}
use Rattle.gp_log.specs.Contents.{entries}
use Rattle.gp_reenact.specs.Reenacting.{spans_of}
use Rattle.gp_serial.specs.Comparing.{first_do_same}
use Rattle.gp_serial.proofs.serializing.does_same.Given as goal

-- the first statements do the same
abbrev pub invariant-loop-before : goal.invariant-loop-before
invariant-loop-before l = first_do_same (entries l.log) (spans_of l.versions) (entries l.other) (spans_of l.made) l.t l.before ≡ true
