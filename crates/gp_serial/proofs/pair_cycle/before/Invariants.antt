use Rattle.std.proofs.Common.{◌≡◌, ◌++◌, drop}
use Rattle.std.specs.Prelude.{filter}
use Rattle.gp_serial.specs.Relations.{is_edge}
use Rattle.gp_serial.proofs.pair_cycle.before.Given as goal

-- the numbers that remain give the others
abbrev pub invariant-loop-from : goal.invariant-loop-from
invariant-loop-from l = l.found.items ++ filter (λ from. is_edge l.graph from l.t) (drop l.from-index l.all) ≡ filter (λ from. is_edge l.graph from l.t) l.all
