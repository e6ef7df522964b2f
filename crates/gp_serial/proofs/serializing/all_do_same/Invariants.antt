use Rattle.std.proofs.Common.{◌≡◌, drop}
use Rattle.gp_log.specs.Contents.{entries}
use Rattle.gp_serial.specs.Comparing.{all_do_same}
use Rattle.gp_serial.proofs.serializing.all_do_same.Given as goal

-- the transactions that remain decide
abbrev pub invariant-loop-t : goal.invariant-loop-t
invariant-loop-t l =
    all_do_same (entries l.log) l.versions (entries l.other) l.made (drop l.t-index l.order) ≡ all_do_same (entries l.log) l.versions (entries l.other) l.made l.order
