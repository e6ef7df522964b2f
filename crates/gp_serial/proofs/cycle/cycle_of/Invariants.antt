use Rattle.std.proofs.Common.{◌≡◌, drop}
use Rattle.gp_serial.specs.CycleForms.{first_cycle}
use Rattle.gp_serial.specs.Relations.{is_edge}
use Rattle.gp_serial.proofs.cycle.cycle_of.Given as goal

-- the numbers that remain decide
abbrev pub invariant-loop-first : goal.invariant-loop-first
invariant-loop-first l = first_cycle (is_edge l.graph) l.all l.count (drop l.first-index l.all) ≡ first_cycle (is_edge l.graph) l.all l.count l.all
