use Rattle.std.proofs.Common.{◌≡◌, ◌++◌, drop, map}
use Rattle.gp_serial.specs.CycleForms.{reaches}
use Rattle.gp_serial.specs.Relations.{is_edge}
use Rattle.gp_serial.proofs.cycle.before_last.Given as goal

-- the numbers that remain give the other flags
abbrev pub invariant-loop-from : goal.invariant-loop-from
invariant-loop-from l = l.flags.items ++ map (reaches (is_edge l.graph) l.all l.last 0) (drop l.from-index l.all) ≡ map (reaches (is_edge l.graph) l.all l.last 0) l.all
