use Rattle.std.proofs.Common.{◌≡◌, ◌++◌, drop}
use Rattle.std.specs.Prelude.{filter}
use Rattle.gp_serial.specs.Relations.{is_edge}
use Rattle.gp_serial.proofs.pair_cycle.after.Given as goal

-- the numbers that remain give the others
abbrev pub invariant-loop-to : goal.invariant-loop-to
invariant-loop-to l = l.found.items ++ filter (is_edge l.graph l.t) (drop l.to-index l.all) ≡ filter (is_edge l.graph l.t) l.all
