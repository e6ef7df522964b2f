use Rattle.std.proofs.Common.{◌≡◌}
use Rattle.gp_serial.specs.CycleForms.{shortest_from}
use Rattle.gp_serial.specs.Relations.{is_edge}
use Rattle.gp_serial.proofs.cycle.least_cycle.Given as goal

-- the lengths that remain decide
abbrev pub invariant-loop-count : goal.invariant-loop-count
invariant-loop-count l = shortest_from (is_edge l.graph) l.all l.count ≡ shortest_from (is_edge l.graph) l.all 0
