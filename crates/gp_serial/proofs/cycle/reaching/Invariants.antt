use Rattle.std.proofs.Common.{map}
use Rattle.gp_serial.specs.CycleForms.{AreLevels}
use Rattle.gp_serial.specs.Relations.{is_edge}
use Rattle.gp_serial.proofs.cycle.reaching.Given as goal

-- a level for each turn
abbrev pub invariant-loop : goal.invariant-loop
invariant-loop l = AreLevels (is_edge l.graph) l.all l.last l.counter (map (λ flags. flags.items) l.levels.items)
