use Rattle.std.proofs.Common.{◌≡◌, ◌++◌, ◌-◌, ℕ, List}
use Rattle.std.specs.Option.{option_map}
use Rattle.gp_serial.specs.CycleForms.{first_walk}
use Rattle.gp_serial.specs.Relations.{is_edge}
use Rattle.gp_serial.proofs.CycleLemmas.{first_path}
use Rattle.gp_serial.proofs.cycle.cycle_from.Given as goal

-- the first path back from the last number is the rest of the first cycle
abbrev pub invariant-loop-steps : goal.invariant-loop-steps
invariant-loop-steps l =
    option_map (λ (others : List ℕ). l.cycle.items ++ others) (first_path (is_edge l.graph) l.all l.first (l.count - l.steps) l.last) ≡ first_walk (is_edge l.graph) l.all l.first l.count
